-- What a process appends is its own: a handoff of its author, a commit of its author, or a block of its phase.
use Rattle.std.proofs.Common.{◌≡◌, ℕ, ◌+◌, ◌==◌, ◌&&◌, List, [], ◌∷◌, ◌++◌, map, filter, not, refl, subst, sym, Option, Some, None, Result, Ok, Err, inl, inr, nat_le}
use Rattle.std.specs.Prelude.{⊤}
use Rattle.std.proofs.lemmas.Bool.{cond_both}
use Rattle.gz_label.specs.declared.entry.Attempt.{Attempt}
use Rattle.gz_journal.specs.declared.request.Request.{Request}
use Rattle.gz_keyspace.specs.Mirrors.{Mirrored}
use Rattle.gz_wire.specs.declared.msg.Send.{Send}
use Rattle.gz_frame.specs.Frame.{frame_of}
use Rattle.gz_recovery.specs.Operations.{Op, max_seq, author_text, op_text}
use Rattle.gz_recovery.specs.declared.error.RecordError.{RecordError}
use Rattle.gz_recovery.specs.declared.op.OpKind.TheVariants.{Handoff}
use Rattle.gz_playback.specs.Playing.{at}
use Rattle.gz_playback.specs.Handing.{author_label, handoff, handoff_with}
use Rattle.gz_store.specs.Stores.{Store}
use Rattle.gz_process.specs.Processes.{Phase, Playing, Handing, Acking, Drawing, Reading, Publishing, Committing, Stopped, Block, Feed, Process}
use Rattle.gz_process.specs.Views.{asked_node, is_primary}
use Rattle.gz_process.specs.Asking.{Appending, plain, Want, msg_of, Polled, quiet, asks, asks_at, is_idle}
use Rattle.gz_process.specs.Playing.{log_read, appending_of, handing_over, hands_with, hands_or_draws, polls_handing}
use Rattle.gz_process.specs.Reading.{source_reads}
use Rattle.gz_process.specs.Writing.{put_of_block, polls_blocks, ops_of, commit_of, committing, commits_with, polls_committing}
use Rattle.gz_process.specs.Rules.{polls_in, polls}
use Rattle.gz_process.specs.Laws.{IsHandoff, IsCommit, blocks_in, WritesOne, IsOwn, AreOwn}

-- what is wanted is the process's own, under whatever number
abbrev OwnWant : Process → Want → Type 0
OwnWant p w = (req : ℕ) → IsOwn p (msg_of req w.journal w.body)

abbrev OwnWants : Process → List Want → Type 0
OwnWants p [] = ⊤
OwnWants p (w ∷ ws) = OwnWant p w × OwnWants p ws

own_behind : (p : Process) (ss : List Send) (s : Send) → AreOwn p ss → IsOwn p s.msg → AreOwn p (ss ++ s ∷ [])
own_behind p [] s h i = (i, tt)
own_behind p (x ∷ xs) s h i = (h.0, own_behind p xs s h.1 i)

asks_own : (p : Process) (m : Mirrored) (base : ℕ) (ws : List Want) (out : Polled) → OwnWants p ws → AreOwn p out.sends → AreOwn p (asks m base ws out).sends
asks_own p m base [] out ow h = h
asks_own p m base (w ∷ ws) out ow h = asks_own p m base ws (asks_at base w (asked_node w.journal m) out) ow.1 (by_node (asked_node w.journal m))
  where
    by_node : (node : Option (List ℕ)) → AreOwn p (asks_at base w node out).sends
    by_node None = h
    by_node (Some node) = own_behind p out.sends _ h (ow.0 (base + out.numbered + 1))

-- ---- handoffs

request_own : (p : Process) (m : Mirrored) (base : ℕ) (r : Request) → IsHandoff p p.definition.log (appending_of r) → AreOwn p (hands_with m base p (Ok r)).sends
request_own p m base r h =
    cond_both ((asks m base (handing_over p r ∷ []) (quiet p)).numbered == 0) _ _ (λ (o : Polled). AreOwn p o.sends) (λ _. all) (λ _. all)
  where
    all : AreOwn p (asks m base (handing_over p r ∷ []) (quiet p)).sends
    all = asks_own p m base (handing_over p r ∷ []) (quiet p) ((λ req. (refl, inl h)), tt) tt

abbrev request_of : Process → ℕ → Attempt → Request
request_of p author attempt = record {
  attempt = attempt;
  offset = Some (at p.player);
  selector = [];
  take = author_label [];
  add = author_label (author_text author);
  content = frame_of (op_text (record { author = author; seq = p.player.fsm.next; kind = Handoff }));
}

handoff_own : (p : Process) (m : Mirrored) (base author : ℕ) → p.author ≡ Some author → (attempt : Attempt) → AreOwn p (hands_with m base p (handoff author attempt p.player)).sends
handoff_own p m base author e attempt =
    cond_both (nat_le p.player.fsm.next max_seq) _ _ (λ (r : Result Op RecordError). AreOwn p (hands_with m base p (handoff_with attempt p.player r)).sends)
    (λ _. request_own p m base (request_of p author attempt) (record { author = author; is_author = e; to_log = refl; offset = refl; selector = refl; take = refl; add = refl }))
    (λ _. tt)

handing_own : (name : List ℕ) (m : Mirrored) (base : ℕ) (p : Process) (author : Option ℕ) → p.author ≡ author → AreOwn p (polls_handing name m base p author).sends
handing_own name m base p None e = tt
handing_own name m base p (Some author) e = handoff_own p m base author e (record { node = name; req = base + 1 })

playing_own : (name : List ℕ) (m : Mirrored) (base : ℕ) (p : Process) (author : Option ℕ) → p.author ≡ author → AreOwn p (hands_or_draws name m base p author).sends
playing_own name m base p None e = (tt, tt)
playing_own name m base p (Some author) e = handoff_own p m base author e (record { node = name; req = base + 1 })

-- ---- blocks

-- of the last of these blocks
abbrev InAll : List Block → List Block → Type 0
InAll bs all = (journal : List ℕ) (a : Appending) → WritesOne bs journal a → WritesOne all journal a

blocks_own : (p : Process) (bs : List Block) → InAll bs (blocks_in p.phase) → OwnWants p (map put_of_block (filter (λ b. not b.is_in) bs))
blocks_own p [] i = tt
blocks_own p (b ∷ bs) i =
    let rest : OwnWants p (map put_of_block (filter (λ b. not b.is_in) bs)) = blocks_own p bs (λ journal a w. i journal a (inr w)) in
    cond_both (not b.is_in) _ _ (λ (xs : List Block). OwnWants p (map put_of_block xs))
    (λ _. ((λ req. (refl, inr (inr (i b.journal (plain b.content) (inl (refl, refl)))))), rest)) (λ _. rest)

writing_own : (m : Mirrored) (base : ℕ) (p : Process) (f : Phase) → p.phase ≡ f → AreOwn p (polls_blocks m base p (blocks_in f)).sends
writing_own m base p f e =
    asks_own p m base (map put_of_block (filter (λ b. not b.is_in) (blocks_in f))) (quiet p)
    (blocks_own p (blocks_in f) (subst (λ (g : Phase). InAll (blocks_in f) (blocks_in g)) (sym e) (λ journal a w. w))) tt

-- ---- commits

commit_own : (m : Mirrored) (base : ℕ) (p : Process) (author : ℕ) → p.author ≡ Some author → (r : Result (List Op) RecordError) → AreOwn p (commits_with m base p author r).sends
commit_own m base p author e (Err x) = tt
commit_own m base p author e (Ok ops) = asks_own p m base (committing p author ops ∷ []) (quiet p) ((λ req. (refl, inr (inl own))), tt) tt
  where
    own : IsCommit p p.definition.log (commit_of author ops)
    own = record { author = author; is_author = e; to_log = refl; offset = refl; selector = refl; take = refl; add = refl }

committing_own : (m : Mirrored) (base : ℕ) (p : Process) (store : Store) (author : Option ℕ) → p.author ≡ author → AreOwn p (polls_committing m base p store author).sends
committing_own m base p store None e = tt
committing_own m base p store (Some author) e = commit_own m base p author e (ops_of author p.fsm store)

-- ---- all polls

reads_own : (p : Process) (fs : List Feed) → OwnWants p (source_reads fs)
reads_own p [] = tt
reads_own p (f ∷ fs) = ((λ req. tt), reads_own p fs)

polled_own : (name : List ℕ) (m : Mirrored) (base now : ℕ) (p : Process) (f : Phase) → p.phase ≡ f → AreOwn p (polls_in name m base now p f).sends
polled_own name m base now p Playing e =
    cond_both (is_primary name p.definition.id m && p.at_head) _ _ (λ (o : Polled). AreOwn p o.sends)
    (λ _. playing_own name m base p p.author refl) (λ _. asks_own p m base (log_read p ∷ []) (quiet p) ((λ req. tt), tt) tt)
polled_own name m base now p Handing e = handing_own name m base p p.author refl
polled_own name m base now p (Acking blocks) e = writing_own m base p (Acking blocks) e
polled_own name m base now p Drawing e = (tt, tt)
polled_own name m base now p (Reading before got) e = asks_own p m base (source_reads p.feeds) (quiet (record p { phase = Reading now [] })) (reads_own p p.feeds) tt
polled_own name m base now p (Publishing blocks store) e = writing_own m base p (Publishing blocks store) e
polled_own name m base now p (Committing store) e = committing_own m base p store p.author refl
polled_own name m base now p (Stopped reason) e = tt

pub polls_own : (name : List ℕ) (m : Mirrored) (base now : ℕ) (p : Process) → AreOwn p (polls name m base now p).sends
polls_own name m base now p = cond_both (is_idle p) _ _ (λ (o : Polled). AreOwn p o.sends) (λ _. polled_own name m base now p p.phase refl) (λ _. tt)
