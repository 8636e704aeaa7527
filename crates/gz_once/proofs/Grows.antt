-- Journals only grow, whatever happens.
use Rattle.std.proofs.Common.{◌≡◌, ℕ, List, [], ◌∷◌, ◌++◌, refl, sym, false, Option, Some, None, subst, inl, inr, true}
use Rattle.std.proofs.lemmas.Bool.{cond_both}
use Rattle.std.specs.Prelude.{nat_lt, ◌&&◌, not}
use Rattle.gz_reader.specs.Lists.{Begins}
use Rattle.gz_reader.specs.Reader.{Line, Message, updated, line_message, pour, acknowledgement}
use Rattle.gz_once.specs.Applications.{App, prefix, parts}
use Rattle.gz_once.specs.Processes.{Append, Handoff, Commit, Lines, Ack, Stand, Todo, Asked, Done, Outcome, Item, Fed, Drew, Ask, Ask_at, Go, Good, Bad, Lost, Good_at, Bad_at, Lost_at, Consumed, Begin}
use Rattle.gz_once.specs.Log.{last, offsets_of}
use Rattle.gz_once.specs.Worlds as journals
use Rattle.gz_once.specs.Worlds.{Slot, Free, Waits, Landed, Refused, Shared, World, lands, put, mark, land, refuse, sent, moved, does, Event, Grow, Other, Skip, Feed, Draw, Take, Poll, Poll_at, Next, Land, Reset, Refuse, Reply, Reply_at, Lose, Lose_at, Consume, Restart, answered, reply, reply_at, lose_at, can_read, happens, run, start}
use Rattle.gz_once.specs.Theorem.{Grown}
use Rattle.gz_reader.proofs.Updates.{upd_each}
use Rattle.gz_reader.proofs.Growing.{begins_refl}

begins_trans : {A : Type 0} (xs ys zs : List A) → Begins xs ys → Begins ys zs → Begins xs zs
begins_trans xs ys [] a b = subst (Begins xs) b a
begins_trans xs ys (z ∷ zs) a b = elim b [ inl e ↦ subst (Begins xs) e a | inr c ↦ inr (begins_trans xs ys zs a c) ]

begins_push : {A : Type 0} (x : A) (xs : List A) → Begins xs (x ∷ xs)
begins_push x xs = inr (begins_refl xs)

begins_pour : (p : ℕ) (ls : List Line) (t : List Message) → Begins t (pour p ls t)
begins_pour p [] t = begins_refl t
begins_pour p (l ∷ ls) t = begins_trans t (line_message p l ∷ t) (pour p ls (line_message p l ∷ t)) (begins_push (line_message p l) t) (begins_pour p ls (line_message p l ∷ t))

grown_refl : (s : Shared) → Grown s s
grown_refl s = record { log = begins_refl s.log; outs = λ j. begins_refl (s.outs j); sources = λ k. begins_refl (s.sources k) }

grown_trans : (s t u : Shared) → Grown s t → Grown t u → Grown s u
grown_trans s t u a b = record {
  log = begins_trans s.log t.log u.log a.log b.log;
  outs = λ j. begins_trans (s.outs j) (t.outs j) (u.outs j) (a.outs j) (b.outs j);
  sources = λ k. begins_trans (s.sources k) (t.sources k) (u.sources k) (a.sources k) (b.sources k);
}

-- one list becomes longer
one : (f : ℕ → List Message) (n : ℕ) (v : List Message) → Begins (f n) v → (j : ℕ) → Begins (f j) (updated f n v j)
one f n v b j = upd_each f n v (λ m u. Begins (f m) u) b j (λ _. begins_refl (f j))

sends : (s : Shared) (o : Option Append) → Grown s (sent s o)
sends s None = grown_refl s
sends s (Some x) = record { log = begins_refl s.log; outs = λ j. begins_refl (s.outs j); sources = λ k. begins_refl (s.sources k) }

puts : (s : Shared) (i : ℕ) (v : Slot) (x : Append) → Grown s (mark (put s x) i v)
puts s i v (Handoff a o nn) = record { log = begins_push _ s.log; outs = λ j. begins_refl (s.outs j); sources = λ k. begins_refl (s.sources k) }
puts s i v (Commit x) = record { log = begins_push _ s.log; outs = λ j. begins_refl (s.outs j); sources = λ k. begins_refl (s.sources k) }
puts s i v (Lines j p ls) = record { log = begins_refl s.log; outs = one s.outs j (pour p ls (s.outs j)) (begins_pour p ls (s.outs j)); sources = λ k. begins_refl (s.sources k) }
puts s i v (Ack j p c) = record { log = begins_refl s.log; outs = one s.outs j (acknowledgement p c ∷ s.outs j) (begins_push (acknowledgement p c) (s.outs j)); sources = λ k. begins_refl (s.sources k) }

marks : (s : Shared) (i : ℕ) (v : Slot) → Grown s (mark s i v)
marks s i v = record { log = begins_refl s.log; outs = λ j. begins_refl (s.outs j); sources = λ k. begins_refl (s.sources k) }

lands_grow : (s : Shared) (i : ℕ) (v : Slot) → Grown s (land s i v)
lands_grow s i (Waits x) = cond_both (lands s x) _ _ (Grown s) (λ _. puts s i (Landed x) x) (λ _. marks s i (Refused x))
lands_grow s i Free = grown_refl s
lands_grow s i (Landed x) = grown_refl s
lands_grow s i (Refused x) = grown_refl s

refuses_grow : (s : Shared) (i : ℕ) (v : Slot) → Grown s (refuse s i v)
refuses_grow s i (Waits x) = marks s i (Refused x)
refuses_grow s i Free = grown_refl s
refuses_grow s i (Landed x) = grown_refl s
refuses_grow s i (Refused x) = grown_refl s

does_grow : (g : App) (w : World) (p : ℕ) (i : Item) → Grown w.shared (does g w p i).shared
does_grow g w p i = sends w.shared (Rattle.gz_once.specs.Processes.step g (w.procs p) w.shared.count i).send

answers_grow : (g : App) (w : World) (p : ℕ) (a b : Item) (v : Slot) → Grown w.shared (answered g w p a b v).shared
answers_grow g w p a b Free = grown_refl w.shared
answers_grow g w p a b (Waits x) = grown_refl w.shared
answers_grow g w p a b (Landed x) = does_grow g w p a
answers_grow g w p a b (Refused x) = does_grow g w p b

reply_grow : (g : App) (w : World) (p : ℕ) (o : Option ℕ) → Grown w.shared (reply g w p o).shared
reply_grow g w p None = grown_refl w.shared
reply_grow g w p (Some n) = answers_grow g w p Good Bad (w.shared.slots n)

reply_at_grow : (g : App) (w : World) (p j : ℕ) (v : Stand) → Grown w.shared (reply_at g w p j v).shared
reply_at_grow g w p j Todo = grown_refl w.shared
reply_at_grow g w p j Done = grown_refl w.shared
reply_at_grow g w p j (Asked n) = answers_grow g w p (Good_at j) (Bad_at j) (w.shared.slots n)

lose_at_grow : (g : App) (w : World) (p j : ℕ) (v : Stand) → Grown w.shared (lose_at g w p j v).shared
lose_at_grow g w p j Todo = grown_refl w.shared
lose_at_grow g w p j Done = grown_refl w.shared
lose_at_grow g w p j (Asked n) = does_grow g w p (Lost_at j)

happens_grow : (g : App) (w : World) (e : Event) → Grown w.shared (happens g w e).shared
happens_grow g w (Grow k m) = record { log = begins_refl w.shared.log; outs = λ j. begins_refl (w.shared.outs j); sources = one w.shared.sources k (m ∷ w.shared.sources k) (begins_push m (w.shared.sources k)) }
happens_grow g w (Other j m) = cond_both _ _ w (λ v. Grown w.shared v.shared)
    (λ _. record { log = begins_refl w.shared.log; outs = one w.shared.outs j (m ∷ w.shared.outs j) (begins_push m (w.shared.outs j)); sources = λ k. begins_refl (w.shared.sources k) }) (λ _. grown_refl w.shared)
happens_grow g w (Skip d) = cond_both (nat_lt w.shared.drawn d) (record w { shared = record w.shared { drawn = d } }) w (λ v. Grown w.shared v.shared) (λ _. record { log = begins_refl w.shared.log; outs = λ j. begins_refl (w.shared.outs j); sources = λ k. begins_refl (w.shared.sources k) }) (λ _. grown_refl w.shared)
happens_grow g w (Feed p n) = does_grow g w p (Fed (prefix n w.shared.log))
happens_grow g w (Draw d) = cond_both (nat_lt w.shared.drawn d && not (g.foreign d)) (record w { shared = record w.shared { drawn = d; own = updated w.shared.own d true; free = updated w.shared.free d true } }) w (λ v. Grown w.shared v.shared) (λ _. record { log = begins_refl w.shared.log; outs = λ j. begins_refl (w.shared.outs j); sources = λ k. begins_refl (w.shared.sources k) }) (λ _. grown_refl w.shared)
happens_grow g w (Take p d) = cond_both (w.shared.free d) (does g (record w { shared = record w.shared { free = updated w.shared.free d false } }) p (Drew d)) w (λ v. Grown w.shared v.shared)
    (λ _. grown_trans w.shared (record w.shared { free = updated w.shared.free d false }) _
    (record { log = begins_refl w.shared.log; outs = λ j. begins_refl (w.shared.outs j); sources = λ k. begins_refl (w.shared.sources k) })
    (does_grow g (record w { shared = record w.shared { free = updated w.shared.free d false } }) p (Drew d))) (λ _. grown_refl w.shared)
happens_grow g w (Poll p) = does_grow g w p Ask
happens_grow g w (Poll_at p j) = does_grow g w p (Ask_at j)
happens_grow g w (Next p) = does_grow g w p Go
happens_grow g w (Land i) = lands_grow w.shared i (w.shared.slots i)
happens_grow g w Reset = record { log = begins_refl w.shared.log; outs = λ j. begins_refl (w.shared.outs j); sources = λ k. begins_refl (w.shared.sources k) }
happens_grow g w (Refuse i) = refuses_grow w.shared i (w.shared.slots i)
happens_grow g w (Reply p) = reply_grow g w p (journals.outstanding (w.procs p).phase)
happens_grow g w (Reply_at p j) = reply_at_grow g w p j ((w.procs p).outs j)
happens_grow g w (Lose p) = does_grow g w p Lost
happens_grow g w (Lose_at p j) = lose_at_grow g w p j ((w.procs p).outs j)
happens_grow g w (Consume p skip to) = cond_both (can_read g w p to) (does g w p (Consumed skip to (parts g g.sources w.shared.sources (offsets_of g (last (w.procs p).text)) to))) w (λ v. Grown w.shared v.shared) (λ _. does_grow g w p (Consumed skip to (parts g g.sources w.shared.sources (offsets_of g (last (w.procs p).text)) to))) (λ _. grown_refl w.shared)
happens_grow g w (Restart p) = does_grow g w p Begin

run_grows : (g : App) (es : List Event) (w : World) → Grown w.shared (run g es w).shared
run_grows g [] w = grown_refl w.shared
run_grows g (e ∷ es) w = grown_trans w.shared (happens g w e).shared (run g es (happens g w e)).shared (happens_grow g w e) (run_grows g es (happens g w e))

run_join : (g : App) (es fs : List Event) (w : World) → run g (es ++ fs) w ≡ run g fs (run g es w)
run_join g [] fs w = refl
run_join g (e ∷ es) fs w = run_join g es fs (happens g w e)

pub grows : (g : App) (es fs : List Event) → Grown (run g es start).shared (run g (es ++ fs) start).shared
grows g es fs = subst (λ v. Grown (run g es start).shared v.shared) (sym (run_join g es fs start)) (run_grows g fs (run g es start))
