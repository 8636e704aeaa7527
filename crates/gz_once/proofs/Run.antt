-- Every event keeps all facts, so they hold after every list of events.
use Rattle.std.proofs.Common.{◌≡◌, ℕ, List, [], ◌∷◌, refl, ap, sym, ◌∙◌, arith, true, false, Option, Some, None, subst, inl, inr, Bool}
use Rattle.std.proofs.lemmas.Bool.{cond_both, eqb-true, leb-true, ltb-true, and_parts, false≢true, not-true}
use Rattle.std.specs.Prelude.{nat_lt, ◌||◌, nat_le, ◌&&◌, not}
use Rattle.gz_once.proofs.Others.{other_shared, other_proc, skip_shared, skip_proc}
use Rattle.gz_reader.specs.Reader.{updated}
use Rattle.gz_once.specs.Applications.{App, prefix, parts}
use Rattle.gz_once.specs.Log.{Transaction, Entry, author_of, last, offsets_of, end_of}
use Rattle.gz_once.specs.Processes.{Append, Handoff, Commit, Lines, Ack, Stand, Todo, Asked, Done, Phase, Playing, Handing, Acking, Publishing, Sending, Process, Outcome, Good, Bad, Good_at, Bad_at, on_fed, on_go, on_good, on_bad, on_lost, on_good_at, on_bad_at, on_lost_at, all_in, begins}
use Rattle.gz_once.specs.Worlds.{Slot, Free, Waits, Landed, Refused, World, lands, put, mark, land, refuse, moved, Event, Grow, Other, Skip, Feed, Draw, Take, Poll, Poll_at, Next, Land, Reset, Refuse, Reply, Reply_at, Lose, Lose_at, Consume, Restart, outstanding, answered, reply, reply_at, lose_at, can_read, happens, run, start}
use Rattle.gz_reader.proofs.Updates.{some_same, none_some}
use Rattle.gz_once.proofs.Facts.{CommitWaits, ProcOk, Invariant, Known}
use Rattle.gz_once.proofs.Moves.{fed_ok, go_ok, good_ok, bad_ok, lost_ok, good_at_ok, bad_at_ok, lost_at_ok, begin_ok}
use Rattle.gz_once.proofs.Sends.{moves, up_refl, ask_ok, ask_at_ok}
use Rattle.gz_once.proofs.Entries.{after, refused_shared, refused_proc}
use Rattle.gz_once.proofs.Lands.{hand_shared, hand_proc, comm_shared, comm_proc}
use Rattle.gz_once.proofs.Outputs.{lines_shared, lines_proc, ack_shared, ack_proc}
use Rattle.gz_once.proofs.Taking.{draw_shared, draw_proc, take_ok}
use Rattle.gz_once.proofs.Beginning.{consumed_ok}
use Rattle.gz_once.proofs.Growth.{grow_shared, grow_proc, up_push}

-- a step that sends nothing
moves_out : (g : App) (w : World) (i : Invariant g w) (p : ℕ) (o : Outcome) → o.send ≡ None → ProcOk g w.shared i.h p o.proc → Invariant g (moved w p o)
moves_out g w i p o e ok = subst (λ v. Invariant g (moved w p (record { proc = o.proc; send = v }))) (sym e) (moves g w i p o.proc ok)

fed_none : (q : Process) (t : List Entry) (f : Phase) → (on_fed q t f).send ≡ None
fed_none q t Playing = refl
fed_none q t f = refl

go_none : (g : App) (q : Process) (f : Phase) → (on_go g q f).send ≡ None
go_none g q Acking = cond_both (all_in g q.outs (last q.text)) _ _ (λ (r : Outcome). r.send ≡ None) (λ _. refl) (λ _. refl)
go_none g q (Publishing x) = cond_both (all_in g q.outs (Some x)) _ _ (λ (r : Outcome). r.send ≡ None) (λ _. refl) (λ _. refl)
go_none g q f = refl

good_none : (q : Process) (f : Phase) → (on_good q f).send ≡ None
good_none q (Handing n) = refl
good_none q (Sending x n) = refl
good_none q f = refl

bad_none : (q : Process) (f : Phase) → (on_bad q f).send ≡ None
bad_none q (Handing n) = refl
bad_none q (Sending x n) = refl
bad_none q f = refl

lost_none : (q : Process) (f : Phase) → (on_lost q f).send ≡ None
lost_none q (Handing n) = refl
lost_none q (Sending x n) = refl
lost_none q f = refl

good_at_none : (q : Process) (j : ℕ) (f : Phase) → (on_good_at q j f).send ≡ None
good_at_none q j Acking = refl
good_at_none q j (Publishing x) = refl
good_at_none q j f = refl

bad_at_none : (q : Process) (j : ℕ) (f : Phase) → (on_bad_at q j f).send ≡ None
bad_at_none q j Acking = refl
bad_at_none q j (Publishing x) = refl
bad_at_none q j f = refl

lost_at_none : (q : Process) (j : ℕ) (f : Phase) → (on_lost_at q j f).send ≡ None
lost_at_none q j Acking = refl
lost_at_none q j (Publishing x) = refl
lost_at_none q j f = refl

-- a commit's register names its author, which is then in force
force_of : (g : App) (w : World) (i : Invariant g w) (n : ℕ) (x : Transaction) → w.shared.slots n ≡ Waits (Commit x) → x.author ≡ w.shared.register → x.author ≡ author_of w.shared.log
force_of g w i n x e same =
    let c : CommitWaits g w.shared i.h n x = (i.shared).waits n (Commit x) e in
    elim ((i.shared).register) [ inl z ↦ absurd (let l = c.pos in omega arith) | inr z ↦ same ∙ z ]

-- an append is judged
land_ok : (g : App) (w : World) (i : Invariant g w) (n : ℕ) (x : Append) (e : w.shared.slots n ≡ Waits x) → lands w.shared x ≡ true → Invariant g (record w { shared = mark (put w.shared x) n (Landed x) })
land_ok g w i n (Handoff a o nn) e l = let at = eqb-true o (end_of w.shared.log) l in record {
  h = record i.h { pending = after (i.h).pending (Handoff a o nn) };
  shared = hand_shared g w.shared i.h i.shared n a o nn e at;
  procs = λ p. hand_proc g w.shared i.h i.shared n a o nn e at p (w.procs p) (i.procs p);
}
land_ok g w i n (Commit x) e l = let same : x.author ≡ w.shared.register = eqb-true x.author w.shared.register l in let at : x.author ≡ author_of w.shared.log = force_of g w i n x e same in record {
  h = record i.h { pending = after (i.h).pending (Commit x) };
  shared = comm_shared g w.shared i.h i.shared n x e at;
  procs = λ p. comm_proc g w.shared i.h i.shared n x e at p (w.procs p) (i.procs p);
}
land_ok g w i n (Lines j p ls) e l = record { h = i.h; shared = lines_shared g w.shared i.h i.shared n j p ls e; procs = λ m. lines_proc g w.shared i.h i.shared n j p ls e m (w.procs m) (i.procs m) }
land_ok g w i n (Ack j p c) e l = record { h = i.h; shared = ack_shared g w.shared i.h i.shared n j p c e; procs = λ m. ack_proc g w.shared i.h i.shared n j p c e m (w.procs m) (i.procs m) }

refused_ok : (g : App) (w : World) (i : Invariant g w) (n : ℕ) (x : Append) (e : w.shared.slots n ≡ Waits x) → Invariant g (record w { shared = mark w.shared n (Refused x) })
refused_ok g w i n x e = record {
  h = record i.h { pending = after (i.h).pending x };
  shared = refused_shared g w.shared i.h i.shared n x e;
  procs = λ p. refused_proc g w.shared i.h i.shared n x e p (w.procs p) (i.procs p);
}

lands_ok : (g : App) (w : World) (i : Invariant g w) (n : ℕ) (v : Slot) → w.shared.slots n ≡ v → Invariant g (record w { shared = land w.shared n v })
lands_ok g w i n (Waits x) e = cond_both (lands w.shared x) _ _ (λ s. Invariant g (record w { shared = s })) (λ l. land_ok g w i n x e l) (λ _. refused_ok g w i n x e)
lands_ok g w i n Free e = i
lands_ok g w i n (Landed x) e = i
lands_ok g w i n (Refused x) e = i

refuses_ok : (g : App) (w : World) (i : Invariant g w) (n : ℕ) (v : Slot) → w.shared.slots n ≡ v → Invariant g (record w { shared = refuse w.shared n v })
refuses_ok g w i n (Waits x) e = refused_ok g w i n x e
refuses_ok g w i n Free e = i
refuses_ok g w i n (Landed x) e = i
refuses_ok g w i n (Refused x) e = i

-- the answers
reply_slot : (g : App) (w : World) (i : Invariant g w) (p n : ℕ) → outstanding (w.procs p).phase ≡ Some n → (v : Slot) → w.shared.slots n ≡ v → Invariant g (answered g w p Good Bad v)
reply_slot g w i p n out (Landed x) e = let q = w.procs p in let o = i.procs p in moves_out g w i p (on_good q q.phase) (good_none q q.phase)
    (good_ok g w.shared i.h i.shared p q q.phase x refl (λ m z. ap w.shared.slots (some_same (sym z ∙ out)) ∙ e) o.draws o.phase)
reply_slot g w i p n out (Refused x) e = let q = w.procs p in let o = i.procs p in moves_out g w i p (on_bad q q.phase) (bad_none q q.phase)
    (bad_ok g w.shared i.h i.shared p q q.phase x refl (λ m z. ap w.shared.slots (some_same (sym z ∙ out)) ∙ e) o.draws o.phase)
reply_slot g w i p n out Free e = i
reply_slot g w i p n out (Waits x) e = i

reply_ok : (g : App) (w : World) (i : Invariant g w) (p : ℕ) (o : Option ℕ) → outstanding (w.procs p).phase ≡ o → Invariant g (reply g w p o)
reply_ok g w i p None e = i
reply_ok g w i p (Some n) e = reply_slot g w i p n e (w.shared.slots n) refl

reply_at_slot : (g : App) (w : World) (i : Invariant g w) (p j n : ℕ) → (w.procs p).outs j ≡ Asked n → (v : Slot) → w.shared.slots n ≡ v → Invariant g (answered g w p (Good_at j) (Bad_at j) v)
reply_at_slot g w i p j n out (Landed x) e = let q = w.procs p in let o = i.procs p in moves_out g w i p (on_good_at q j q.phase) (good_at_none q j q.phase)
    (good_at_ok g w.shared i.h i.shared p q j n x q.phase refl out e o.draws o.phase)
reply_at_slot g w i p j n out (Refused x) e = let q = w.procs p in let o = i.procs p in moves_out g w i p (on_bad_at q j q.phase) (bad_at_none q j q.phase)
    (bad_at_ok g w.shared i.h i.shared p q j n x q.phase refl out e o.draws o.phase)
reply_at_slot g w i p j n out Free e = i
reply_at_slot g w i p j n out (Waits x) e = i

reply_at_ok : (g : App) (w : World) (i : Invariant g w) (p j : ℕ) (v : Stand) → (w.procs p).outs j ≡ v → Invariant g (reply_at g w p j v)
reply_at_ok g w i p j Todo e = i
reply_at_ok g w i p j Done e = i
reply_at_ok g w i p j (Asked n) e = reply_at_slot g w i p j n e (w.shared.slots n) refl

lose_at_ok : (g : App) (w : World) (i : Invariant g w) (p j : ℕ) (v : Stand) → Invariant g (lose_at g w p j v)
lose_at_ok g w i p j Todo = i
lose_at_ok g w i p j Done = i
lose_at_ok g w i p j (Asked n) = let q = w.procs p in let o = i.procs p in moves_out g w i p (on_lost_at q j q.phase) (lost_at_none q j q.phase)
    (lost_at_ok g w.shared i.h i.shared p q j q.phase refl o.draws o.phase)

known : (g : App) (w : World) (p : ℕ) (b : Bool) → nat_le p w.shared.drawn ≡ b → (b || g.foreign p) ≡ true → Known g w.shared p
known g w p true e f = inl (leb-true p w.shared.drawn e)
known g w p false e f = inr f

pub event_ok : (g : App) (w : World) (i : Invariant g w) (e : Event) → Invariant g (happens g w e)
event_ok g w i (Grow k m) = record { h = i.h; shared = grow_shared g w.shared i.h i.shared (updated w.shared.sources k (m ∷ w.shared.sources k)) (up_push g w.shared.sources k m) w.shared.register (i.shared).register; procs = λ p. grow_proc g w.shared i.h i.shared (updated w.shared.sources k (m ∷ w.shared.sources k)) (up_push g w.shared.sources k m) w.shared.register (i.shared).register p (w.procs p) (i.procs p) }
event_ok g w i (Other j m) = cond_both (not (w.shared.own m.producer) && (nat_le m.producer w.shared.drawn || g.foreign m.producer)) _ _ (Invariant g)
    (λ c. let r = and_parts (not (w.shared.own m.producer)) (nat_le m.producer w.shared.drawn || g.foreign m.producer) c in
    let o : w.shared.own m.producer ≡ false = not-true (w.shared.own m.producer) r.0 in
    let l : Known g w.shared m.producer = known g w m.producer (nat_le m.producer w.shared.drawn) refl r.1 in
    record { h = i.h; shared = other_shared g w.shared i.h i.shared j m o l; procs = λ p. other_proc g w.shared i.h i.shared j m o l p (w.procs p) (i.procs p) })
    (λ _. i)
event_ok g w i (Skip d) = cond_both (nat_lt w.shared.drawn d) _ _ (Invariant g)
    (λ c. let l = ltb-true w.shared.drawn d c in record { h = i.h; shared = skip_shared g w.shared i.h i.shared d l; procs = λ p. skip_proc g w.shared i.h i.shared d l p (w.procs p) (i.procs p) }) (λ _. i)
event_ok g w i (Feed p n) = let q = w.procs p in let o = i.procs p in moves_out g w i p (on_fed q (prefix n w.shared.log) q.phase) (fed_none q (prefix n w.shared.log) q.phase)
    (fed_ok g w.shared i.h i.shared p q n q.phase refl o.draws o.phase)
event_ok g w i (Draw d) = cond_both (nat_lt w.shared.drawn d && not (g.foreign d)) _ _ (Invariant g)
    (λ c. let r = and_parts (nat_lt w.shared.drawn d) (not (g.foreign d)) c in let l = ltb-true w.shared.drawn d r.0 in let f = not-true (g.foreign d) r.1 in
    record { h = i.h; shared = draw_shared g w.shared i.h i.shared d l f; procs = λ p. draw_proc g w.shared i.h i.shared d l f p (w.procs p) (i.procs p) }) (λ _. i)
event_ok g w i (Take p d) = let o = i.procs p in cond_both (w.shared.free d) _ _ (Invariant g) (λ z. take_ok g w i p d z (w.procs p).phase refl o.draws o.phase) (λ _. i)
event_ok g w i (Poll p) = let o = i.procs p in ask_ok g w i p (w.procs p).phase refl o.draws o.phase
event_ok g w i (Poll_at p j) = let o = i.procs p in ask_at_ok g w i p j (w.procs p).phase refl o.draws o.phase
event_ok g w i (Next p) = let q = w.procs p in let o = i.procs p in moves_out g w i p (on_go g q q.phase) (go_none g q q.phase)
    (go_ok g w.shared i.h i.shared p q q.phase refl o.draws o.phase)
event_ok g w i (Land n) = lands_ok g w i n (w.shared.slots n) refl
event_ok g w i Reset = record { h = i.h; shared = grow_shared g w.shared i.h i.shared w.shared.sources (up_refl g w.shared.sources) 0 (inl refl); procs = λ p. grow_proc g w.shared i.h i.shared w.shared.sources (up_refl g w.shared.sources) 0 (inl refl) p (w.procs p) (i.procs p) }
event_ok g w i (Refuse n) = refuses_ok g w i n (w.shared.slots n) refl
event_ok g w i (Reply p) = reply_ok g w i p (outstanding (w.procs p).phase) refl
event_ok g w i (Reply_at p j) = reply_at_ok g w i p j ((w.procs p).outs j) refl
event_ok g w i (Lose p) = let q = w.procs p in let o = i.procs p in moves_out g w i p (on_lost q q.phase) (lost_none q q.phase)
    (lost_ok g w.shared i.h i.shared p q q.phase refl o.draws o.phase)
event_ok g w i (Lose_at p j) = lose_at_ok g w i p j ((w.procs p).outs j)
event_ok g w i (Consume p skip to) = let o = i.procs p in cond_both (can_read g w p to) _ _ (Invariant g)
    (λ c. consumed_ok g w i p skip to (parts g g.sources w.shared.sources (offsets_of g (last (w.procs p).text)) to) c refl (w.procs p).phase refl o.draws o.phase) (λ _. i)
event_ok g w i (Restart p) = moves g w i p begins (begin_ok g w.shared i.h i.shared p)

pub run_ok : (g : App) (es : List Event) (w : World) → Invariant g w → Invariant g (run g es w)
run_ok g [] w i = i
run_ok g (e ∷ es) w i = run_ok g es (happens g w e) (event_ok g w i e)

pub begins_ok : (g : App) → Invariant g start
begins_ok g = record {
  h = record { pending = λ a. None; holder = λ a. 0; under = λ a. 0; begun = λ p. [] };
  shared = record {
    log = tt;
    register = inl refl;
    authors = λ e i. absurd i;
    commits = λ x i. absurd i;
    rests = λ j p z. record { chain = inl refl; level = omega arith; steps = λ x e. absurd (none_some e) };
    outs = λ j. inl (record { accepted = refl; acked = λ x e. absurd (none_some e) });
    frees = λ b z. absurd (false≢true z);
    waits = λ i a e. cc;
    landed = λ i a e. cc;
    fresh = λ i l. refl;
    spoken = record { slots = λ i a e. absurd (none_some e); texts = λ j m i. absurd i; commits = λ x i. absurd i };
    history = λ p. tt;
    undrawn = λ p l. (refl, refl, refl);
    low = λ j m i. absurd i;
    heard = λ j m i. absurd i;
  };
  procs = λ p. record {
    draws = record { author = (omega arith, omega arith); holder = λ l. absurd (omega arith); under = λ l. absurd (omega arith); pos = λ l. absurd (omega arith); own = λ l. absurd (omega arith); taken = λ l. absurd (omega arith) };
    phase = (refl, λ l. absurd (omega arith));
  };
}

pub holds : (g : App) (es : List Event) → Invariant g (run g es start)
holds g es = run_ok g es start (begins_ok g)
