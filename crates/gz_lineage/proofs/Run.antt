-- Every event keeps the invariant, so every run has it while handover holds.
use Rattle.gz_lineage.specs.Marks.{Mark}
use Rattle.std.proofs.Common.{◌≡◌, ℕ, ◌+◌, ◌<◌, ◌≤◌, List, [], ◌∷◌, length, take, refl, sym, arith, Bool, true, false, Option, Some, None, eqb, subst, inl, inr}
use Rattle.gz_lineage.specs.Prefix.{IsPrefix}
use Rattle.gz_lineage.specs.Lists.{In, Each}
use Rattle.gz_lineage.specs.Nodes.{Route, Part, Message, Letter, Closed, Opening, Adopting, Syncing, Open, Promise, Adopt, Append, Replicate, Head}
use Rattle.gz_lineage.specs.Rules.{image_of}
use Rattle.gz_lineage.specs.World.{grown, risen}
use Rattle.gz_lineage.proofs.Landing.{lawful_nil}
use Rattle.gz_lineage.proofs.Prefixes.{pre_refl}
use Rattle.gz_lineage.specs.Rules
use Rattle.gz_lineage.proofs.Listed.{each_in, in_at}
use Rattle.gz_lineage.proofs.Facts.{HeadOk, Copy, IsOpen, PartOk, NodeOk, MessageOk, LetterOk, AllOk}
use Rattle.gz_lineage.proofs.History.{Keys, Ghost, IsMember}
use Rattle.std.proofs.lemmas.Bool.{ltb-true, leb-true, eqb-true, cond_both, and_parts, false≢true, cases_eq}
use Rattle.std.specs.Prelude.{nat_lt, nat_le}
use Rattle.gz_lineage.specs.World
use Rattle.gz_lineage.specs.World.{World as Worlds, State, Moved, Event, Converge, Crash, Write, Deliver, Drop, Flush, Repeat, Renew, Resend, Give, node_at, fresh, grown_all}
use Rattle.gz_lineage.specs.Handover.{HandoverAt, HandoverThroughout}
use Rattle.std.specs.Prelude.{slice_index_or, replicate}
use Rattle.std.specs.List.{remove}
use Rattle.gz_lineage.proofs.Members.{to_each_ok, each_all}
use Rattle.std.proofs.lemmas.Bool.{eq-eqb, ne_eqb}
use Rattle.std.specs.Prelude.{if◌then◌else◌, slice_get, suc, zero, ◌&&◌, not}
use Rattle.gz_lineage.proofs.Invariant.{Inv, Went, each_remove, sends_went, stays_went, stops}
use Rattle.gz_lineage.proofs.KeySpace.{delivery_ok, routed_ok}

-- what is flushed is the journal's
flush_ok : (w : Worlds) (i : Inv w) (n : ℕ) (p : Part) → AllOk i.K i.g (Rules.flush n (node_at w.state.nodes n) p)
flush_ok w i n Closed = tt
flush_ok w i n (Opening r reports names) = tt
flush_ok w i n (Adopting r reached) = tt
flush_ok w i n (Syncing r) = tt
flush_ok w i n (Open r held queue) = ((i.nodes n).body.image.prefix, tt)

-- a primary's head covers what the journal has
head_said : (w : Worlds) (i : Inv w) (n : ℕ) (r : Route) (held : List (ℕ × ℕ)) → IsOpen i.K i.g n (node_at w.state.nodes n) r held → HeadOk i.g r.epoch (node_at w.state.nodes n).head
head_said w i n r held a = let b = (i.nodes n).body.image in record { fits = subst (λ x. (node_at w.state.nodes n).head ≤ length x) a.whole b.fits; prefix = subst (λ x. IsPrefix (take (node_at w.state.nodes n).head x) i.g.journal) a.whole b.prefix }

resend_ok : (w : Worlds) (i : Inv w) (n : ℕ) (p : Part) → PartOk i.K i.g n (node_at w.state.nodes n) p → AllOk i.K i.g (Rules.resent n (node_at w.state.nodes n) p)
resend_ok w i n Closed a = tt
resend_ok w i n (Opening r reports names) a = (a.route.known, to_each_ok i.K i.g n (Promise r.epoch) r.others (each_all (λ m. i.K.known r.epoch ≡ true) r.others (λ m. a.route.known)))
resend_ok w i n (Adopting r reached) a = to_each_ok i.K i.g n (Adopt r.epoch (image_of (node_at w.state.nodes n))) r.others (each r.others (λ m x. inr (subst (λ ms. In m ms) (sym a.route.others) x)))
  where
    each : (ms : List ℕ) → ((m : ℕ) → In m ms → IsMember i.K r.epoch m) → Each (λ m. MessageOk i.K i.g n m (Adopt r.epoch (image_of (node_at w.state.nodes n)))) ms
    each [] f = tt
    each (m ∷ ms) f = ((a.route.known, f m (inl refl), subst (λ e. Copy i.K i.g e (node_at w.state.nodes n).spool) a.adopted (i.nodes n).body.copy, sym a.base, (i.nodes n).body.image), each ms (λ k x. f k (inr x)))
resend_ok w i n (Syncing r) a = ((a.route.known, a.everyone), tt)
resend_ok w i n (Open r held queue) a = to_each_ok i.K i.g n (Head r.epoch (node_at w.state.nodes n).head) r.others (each_all (λ m. HeadOk i.g r.epoch (node_at w.state.nodes n).head) r.others (λ m. head_said w i n r held a))

there : (xs : List Mark) (k : ℕ) (d : Mark) → k < length xs → slice_index_or xs k (slice_index_or xs k d) ≡ slice_index_or xs k d
there [] k d l = absurd (omega arith)
there (x ∷ xs) zero d l = refl
there (x ∷ xs) (suc k) d l = there xs k d (omega arith)

give_ok : (w : Worlds) (i : Inv w) (n k : ℕ) (p : Part) → PartOk i.K i.g n (node_at w.state.nodes n) p → AllOk i.K i.g (Rules.given n (node_at w.state.nodes n) k p)
give_ok w i n k Closed a = tt
give_ok w i n k (Opening r reports names) a = tt
give_ok w i n k (Adopting r reached) a = tt
give_ok w i n k (Syncing r) a = tt
give_ok w i n k (Open r held queue) a =
    let st = node_at w.state.nodes n in
    let x = slice_index_or st.spool k Rules.reset in
    cond_both (nat_le st.head k && nat_lt k (length st.spool)) (Rules.to_each n (Replicate r.epoch k x st.head) r.others) [] (AllOk i.K i.g)
    (λ t. let both = and_parts (nat_le st.head k) (nat_lt k (length st.spool)) t in
    let low : st.head ≤ k = leb-true st.head k both.0 in
    let less : k < length st.spool = ltb-true k (length st.spool) both.1 in
    to_each_ok i.K i.g n (Replicate r.epoch k x st.head) r.others (each_all (λ m. MessageOk i.K i.g n m (Replicate r.epoch k x st.head)) r.others
    (λ m. (subst (λ y. k < length y) a.whole less, subst (λ y. slice_index_or y k x ≡ x) a.whole (there st.spool k Rules.reset less), head_said w i n r held a, a.made, omega (arith, a.base, low)))))
    (λ _. tt)

repeat_ok : (w : Worlds) (i : Inv w) (o : Option Letter) → ((l : Letter) → o ≡ Some l → LetterOk i.K i.g l) → Went i (World.recorded w (World.again w o))
repeat_ok w i None a = stays_went w i w.state.flight i.flight
repeat_ok w i (Some l) a = sends_went w i w.state.flight (l ∷ []) i.flight (a l refl, tt)

told_ok : (K : Keys) (g : Ghost) (from to e offset head f t : ℕ) (x : Mark) (c d : Message) → MessageOk K g from to (Replicate e offset x head) → MessageOk K g f t c → World.with_told e offset x c ≡ Some d → MessageOk K g from to d
told_ok K g from to e offset head f t x (Head n h) d a b same = elim (cases_eq e n) [
  | inl z ↦ (let s : Some (Replicate e offset x h) ≡ Some d = subst (λ (v : Bool). (if v then Some (Replicate e offset x h) else None) ≡ Some d) (eq-eqb e n z) same in
      let y : Replicate e offset x h ≡ d = cc in
      subst (λ m. MessageOk K g from to m) y (a.0, a.1, rw z b, a.3, a.4))
  | inr z ↦ absurd (let s : None ≡ Some d = subst (λ (v : Bool). (if v then Some (Replicate e offset x h) else None) ≡ Some d) (ne_eqb e n z) same in cc)
]
told_ok K g from to e offset head f t x c d a b same = absurd (cc)

body_ok : (K : Keys) (g : Ghost) (from to f t : ℕ) (b c d : Message) → MessageOk K g from to b → MessageOk K g f t c → World.renewed_body b c ≡ Some d → MessageOk K g from to d
body_ok K g from to f t (Replicate e offset x head) c d a m same = told_ok K g from to e offset head f t x c d a m same
body_ok K g from to f t b c d a m same = absurd (cc)

renewed_ok : (K : Keys) (g : Ghost) (o p : Option Letter) → ((l : Letter) → o ≡ Some l → LetterOk K g l) → ((l : Letter) → p ≡ Some l → LetterOk K g l) → (l : Letter) → World.renewed o p ≡ Some l → LetterOk K g l
renewed_ok K g None p a b l e = absurd (cc)
renewed_ok K g (Some x) None a b l e = absurd (cc)
renewed_ok K g (Some x) (Some y) a b l e = go (World.renewed_body x.body y.body) refl e
  where
    go : (v : Option Message) → World.renewed_body x.body y.body ≡ v → World.with_body x v ≡ Some l → LetterOk K g l
    go None z e = absurd (cc)
    go (Some m) z e = let s : Rules.letter x.from x.to m ≡ l = cc in subst (λ (k : Letter). LetterOk K g k) s (body_ok K g x.from x.to y.from y.to x.body y.body m (a x refl) (b y refl) z)

pub event_ok : (w : Worlds) (i : Inv w) (e : Event) → HandoverAt (World.happens w e) (World.happens w e).state.routes → Went i (World.happens w e)
event_ok w i (Converge more lead others) h =
    routed_ok w i (record { epoch = World.latest w.state.routes + more + 1; lead = lead; others = others; opened = w.state.sync }) (omega arith) refl h
event_ok w i (Crash n) h = stops w i n
event_ok w i (Write to x) h = sends_went w i w.state.flight (Rules.letter Rules.keys to (Append x) ∷ []) i.flight (tt, tt)
event_ok w i (Deliver k) h = delivery_ok w i k (slice_get w.state.flight k) (λ l e. each_in (LetterOk i.K i.g) w.state.flight l i.flight (in_at w.state.flight k l e))
event_ok w i (Flush n) h = sends_went w i w.state.flight _ i.flight
    (cond_both (slice_index_or w.state.runs n false && nat_lt n (length w.state.nodes)) _ [] (AllOk i.K i.g) (λ _. flush_ok w i n (node_at w.state.nodes n).part) (λ _. tt))
event_ok w i (Repeat k) h = repeat_ok w i (slice_get w.said k) (λ l e. each_in (LetterOk i.K i.g) w.said l i.said (in_at w.said k l e))
event_ok w i (Renew k n) h = repeat_ok w i (World.renewed (slice_get w.said k) (slice_get w.said n))
    (renewed_ok i.K i.g (slice_get w.said k) (slice_get w.said n) (λ l e. each_in (LetterOk i.K i.g) w.said l i.said (in_at w.said k l e)) (λ l e. each_in (LetterOk i.K i.g) w.said l i.said (in_at w.said n l e)))
event_ok w i (Resend n) h = sends_went w i w.state.flight _ i.flight (resend_ok w i n (node_at w.state.nodes n).part (i.nodes n).part)
event_ok w i (Give n k) h = sends_went w i w.state.flight _ i.flight (give_ok w i n k (node_at w.state.nodes n).part (i.nodes n).part)
event_ok w i (Drop k) h = stays_went w i (remove w.state.flight k) (each_remove (LetterOk i.K i.g) w.state.flight k i.flight)

pub run_ok : (es : List Event) (w : Worlds) → Inv w → HandoverThroughout es w → Inv (World.run es w)
run_ok [] w i h = i
run_ok (e ∷ es) w i h = run_ok es (World.happens w e) (event_ok w i e h.0).after h.1

fresh_at : (n k : ℕ) → node_at (replicate n fresh) k ≡ fresh
fresh_at zero k = refl
fresh_at (suc n) zero = refl
fresh_at (suc n) (suc k) = fresh_at n k

pub begins : (size : ℕ) → Inv (World.start size)
begins size =
    let K : Keys = record { known = λ e. false; synced = λ e. false; lead = λ e. 0; others = λ e. []; opened = λ e. 0; witness = λ e. 0; dead = λ e. false; floor = λ e. 0; low = λ e. 0; latest = 0 } in
    let g : Ghost = record { prom = λ m. 0; adop = λ m. 0; ends = λ m e. 0; text = λ e. []; base = λ e. 0; made = λ e. eqb e 0; born = λ e. 0; top = 0; journal = []; taken = []; gone = λ m. not (slice_index_or (replicate size true) m false) } in
    let new : (n : ℕ) → NodeOk K g n fresh = λ n. record {
      body = record {
        promised = refl;
        adopted = refl;
        order = omega arith;
        copy = record { made = refl; known = λ l. absurd (omega arith); base = omega arith; within = pre_refl [] };
        reach = refl;
        member = λ l. absurd (omega arith);
        image = record { fits = omega arith; prefix = pre_refl [] };
        later = λ e l. refl;
      };
      part = tt;
    } in
    record {
      K = K;
      g = g;
      global = record {
        known = λ e k. absurd (false≢true k);
        before = λ e k. absurd (false≢true k);
        synced = λ s y. absurd (false≢true y);
        opened = λ e s k y l. absurd (false≢true k);
        witness = λ e k. absurd (false≢true k);
        dead = λ e k. absurd (false≢true k);
        capped = λ e s m y l. absurd (false≢true y);
        base = λ e m. omega arith;
        made = λ e m l. absurd (let z : e ≡ 0 = eqb-true e 0 m in omega arith);
        by_lead = λ e m l. absurd (let z : e ≡ 0 = eqb-true e 0 m in omega arith);
        puts = λ e m. tt;
        lawful = λ e. lawful_nil;
        unopened = λ e m l. omega arith;
        born = λ e m l. absurd (omega arith);
        birth = λ b m p. absurd (let z : b ≡ 0 = eqb-true b 0 m in omega arith);
        since = λ e m p. absurd (omega arith);
        pick = λ e m l. absurd (let z : e ≡ 0 = eqb-true e 0 m in omega arith);
        unmade = λ e m. refl;
        nothing = (refl, refl, refl);
        none_open = λ z. refl;
        top = λ l. absurd (omega arith);
      };
      nodes = λ n. rw fresh_at (new n);
      flight = tt;
      said = tt;
      taken = refl;
      journal = refl;
      routes = tt;
      latest = refl;
      sync = λ s y. absurd (false≢true y);
      sync_is = λ l. absurd (omega arith);
      stored = pre_refl [];
      floors = λ e k. absurd (false≢true k);
      gone = λ m. refl;
      top = refl;
      syncs = λ s y. absurd (false≢true y);
      synced_of = λ s j. absurd j;
      found = λ e k. absurd (false≢true k);
    }

-- no epoch has a list yet
pub begins_empty : (size e : ℕ) → (begins size).g.text e ≡ []
unfolding begins
begins_empty size e = refl
