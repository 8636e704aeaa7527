-- A source grows, and the register is reset: what was consumed stays as it was, and no commit lands until the next handoff.
use Rattle.std.proofs.Common.{◌≡◌, ℕ, ◌≤◌, List, ◌∷◌, refl, arith, ◌⊎◌, inl, inr}
use Rattle.std.proofs.lemmas.Bool.{cases_eq}
use Rattle.gz_reader.specs.Reader.{Message, updated}
use Rattle.gz_once.specs.Applications.{App, reach}
use Rattle.gz_once.specs.Log.{author_of}
use Rattle.gz_once.specs.Processes.{Append, Handoff, Commit, Lines, Ack, Process}
use Rattle.gz_once.specs.Worlds.{Waits, Shared}
use Rattle.gz_reader.proofs.Updates.{upd_each}
use Rattle.gz_once.proofs.Texts.{parts_push}
use Rattle.gz_once.proofs.Logs.{Up, log_up}
use Rattle.gz_once.proofs.Facts.{Ghost, WaitsOk, ProcOk, SharedOk}
use Rattle.gz_once.proofs.Frames.{spoken_up, Kept, proc_kept, idle_kept, commit_kept}
use Rattle.gz_once.proofs.Taking.{landed_same}

-- one more message in a source
pub up_push : (g : App) (texts : ℕ → List Message) (n : ℕ) (m : Message) → Up g texts (updated texts n (m ∷ texts n))
up_push g texts n m = record {
  len = λ k. upd_each texts n (m ∷ texts n) (λ a u. reach g a (texts a) ≤ reach g a u) (omega arith) k (λ _. omega arith);
  same = λ c from to w. parts_push g c texts n m from to w;
}

-- sources grow, and the register may be reset
module _ (g : App) (s : Shared) (h : Ghost) (ok : SharedOk g s h) (texts : ℕ → List Message) (up : Up g s.sources texts) (r : ℕ) (rok : (r ≡ 0) ⊎ (r ≡ author_of s.log)) where
  abbrev tg : Shared
  tg = record s { register = r; sources = texts }

  grow_kept : (a p : ℕ) → Kept g s tg h h a p
  grow_kept a p = record {
    log = inl refl;
    outs = λ j m z. z;
    sources = up;
    holds = λ i x z. z;
    landed = λ i x z. z;
    refused = λ i x z. z;
    main = λ i x z _. z;
    acks = λ u i j c z. z;
    stock = λ u q x j z w m. m;
    low = λ u q x j z l. l;
    lines = λ u q x j i z w l m. inl m;
    pending = refl;
    begun = refl;
    holder = (refl, refl);
    under = refl;
    drawn = omega arith;
    own = λ b z. z;
    taken = (λ z. z, λ z. z);
  }

  grow_waits : (i : ℕ) (y : Append) → s.slots i ≡ Waits y → WaitsOk g s h i y → WaitsOk g tg h i y
  grow_waits i (Handoff b o nn) z w = record { pending = w.pending; pos = w.pos; drawn = w.drawn; taken = w.taken; absent = w.absent; base = w.base }
  grow_waits i (Commit y) z w = commit_kept g s tg h h i y (grow_kept y.author y.producer) z w
  grow_waits i (Lines j p ls) z w = record { own = w.own; lines = w.lines }
  grow_waits i (Ack j p c) z w = record { x = w.x; landed = w.landed; producer = w.producer; clock = w.clock; needed = w.needed; state = w.state }

  pub grow_shared : SharedOk g tg h
  grow_shared = record {
    log = log_up g s.sources tg.sources s.outs s.outs up (λ j m z. z) s.log ok.log;
    authors = ok.authors;
    commits = λ y i. let c = ok.commits y i in record { under = c.under; pos = c.pos; own = c.own; taken = c.taken; drawn = c.drawn; current = c.current };
    rests = λ j n z. let r = ok.rests j n z in record { chain = r.chain; level = r.level; steps = r.steps };
    outs = λ j. elim (ok.outs j) [
      | inl o ↦ inl (record { accepted = o.accepted; acked = o.acked })
      | inr o ↦ inr (record { x = o.x; is_last = o.is_last; accepted = o.accepted; needed = o.needed; chain = o.chain; low = o.low; current = o.current; sole = o.sole })
    ];
    waits = λ i y z. grow_waits i y z (ok.waits i y z);
    landed = λ i y z. landed_same s tg (λ j m q. q) y (ok.landed i y z);
    frees = ok.frees;
    fresh = ok.fresh;
    register = rok;
    spoken = spoken_up g s tg h h (λ y z. z) (λ p y z. z) (λ m y z. inl z) (λ j m z w. inl (z, w)) (λ y z. inl z) ok.spoken;
    history = ok.history;
    undrawn = ok.undrawn;
    low = ok.low;
    heard = ok.heard;
  }

  pub grow_proc : (p : ℕ) (q : Process) → ProcOk g s h p q → ProcOk g tg h p q
  grow_proc p q o = elim (cases_eq q.author 0) [
    | inl z ↦ idle_kept g s tg h h p q z (λ b. b) (omega arith) o
    | inr z ↦ proc_kept g s tg h h q (grow_kept q.author q.producer) p o
  ]
