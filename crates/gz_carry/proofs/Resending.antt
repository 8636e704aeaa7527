-- What a primary sends again. While it isn't open it asks those that haven't told. An open one tells its head, and sends
-- each member the entries from the end on that it is known to hold; none is below the head, and so the node gives them.
use Rattle.std.proofs.Common.{◌≡◌, ℕ, ◌+◌, ◌<◌, ◌≤◌, List, [], ◌∷◌, ◌++◌, length, take, drop, refl, ap, sym, ◌∙◌, arith, subst, inl, inr, zero, suc, Option, Some, None, true}
use Rattle.std.specs.Prelude.{map, slice_index_or, nat_le, nat_lt, is_some, if◌then◌else◌}
use Rattle.std.proofs.lemmas.Bool.{cases_lt, cond_both, leb-true, le-leb, lt-ltb}
use Rattle.gz_label.specs.declared.label.Label.{Label}
use Rattle.gz_label.specs.declared.entry.Entry.{Entry}
use Rattle.gz_wire.specs.declared.msg.Msg.{Msg}
use Rattle.gz_wire.specs.declared.msg.Send.{Send}
use Rattle.gz_wire.specs.declared.msg.Msg.TheVariants as wire
use Rattle.gz_spool.specs.Spools.{spool_end, placed_from}
use Rattle.gz_replica.specs.Member as full
use Rattle.gz_replica.specs.declared.part.Part.TheVariants as full_part
use Rattle.gz_replica.specs.declared.part.Part as full_parts
use Rattle.gz_replica.specs.declared.part.Route as full_routes
use Rattle.gz_replica.specs.Slots as full_slots
use Rattle.gz_replica.specs.Resending as resending
use Rattle.gz_lineage.specs.Lists.{In, Each, names}
use Rattle.gz_lineage.specs.Marks.{Mark, Reset, Added, end_of_marks}
use Rattle.gz_lineage.specs.Nodes as reduced
use Rattle.gz_lineage.specs.Rules as rules
use Rattle.gz_lineage.proofs.Listed.{each_append, in_append_left}
use Rattle.gz_carry.specs.Seen.{PlaceSeen, RouteSeen, SlotsSeen, HeldSeen, ReportSeen, Anything, PartSeen, MemberSeen, MessageSeen, SendsSeen}
use Rattle.gz_carry.specs.Histories.{HasBytes, History, IsOpen, PartOf, NodeOf}
use Rattle.gz_carry.specs.Carried.{all_given, HoldTheHead}
use Rattle.gz_carry.proofs.Ends.{end_append, end_more}
use Rattle.gz_carry.proofs.Sends.{in_right, each_seen, sends_more}
use Rattle.gz_carry.proofs.Trimming.{Stands, stands_of, one_more, goes_on}

-- ---- to those that haven't told

-- a letter to each is one to a member of the list
in_each : (me : ℕ) (body : reduced.Message) (m : ℕ) (ms : List ℕ) → In m ms → In (rules.letter me m body) (rules.to_each me body ms)
in_each me body m [] i = absurd i
in_each me body m (x ∷ ms) i = elim i [ inl e ↦ inl (ap (λ y. rules.letter me y body) e) | inr k ↦ inr (in_each me body m ms k) ]

-- those that haven't told are among the names
missing_in : {A B : Type 0} (num : List ℕ → ℕ) (P : A → B → Type 0) (xs : full_slots.Slots A) (ys : List (ℕ × Option B)) → SlotsSeen num P xs ys → (ms : List ℕ) → ((n : ℕ) → In n (names ys) → In n ms) → Each (λ (m : List ℕ). In (num m) ms) (full_slots.missing xs)
missing_in num P [] [] s ms f = tt
missing_in num P (x ∷ xs) (y ∷ ys) s ms f = cond_both (is_some x.1) (full_slots.missing xs) (x.0 ∷ full_slots.missing xs) (Each (λ (m : List ℕ). In (num m) ms))
    (λ _. missing_in num P xs ys s.2 ms (λ n k. f n (inr k)))
    (λ _. (subst (λ n. In n ms) s.0 (f y.0 (inl refl)), missing_in num P xs ys s.2 ms (λ n k. f n (inr k))))
missing_in num P [] (y ∷ ys) s ms f = absurd s
missing_in num P (x ∷ xs) [] s ms f = absurd s

-- a message to some is seen where its letter was said to all
to_missing : (num : List ℕ → ℕ) (lists : ℕ → List Mark) (me : List ℕ) (msg : Msg) (body : reduced.Message) (said : List reduced.Letter) (all : List ℕ) →
    ((to : List ℕ) → In (rules.letter (num me) (num to) body) said → MessageSeen num lists said me to msg) → ((x : reduced.Letter) → In x (rules.to_each (num me) body all) → In x said) →
    (ms : List (List ℕ)) → Each (λ (m : List ℕ). In (num m) all) ms → SendsSeen num lists said me (full.to_each msg ms)
to_missing num lists me msg body said all f g [] a = tt
to_missing num lists me msg body said all f g (m ∷ ms) a = (f m (g (rules.letter (num me) (num m) body) (in_each (num me) body (num m) all a.0)), to_missing num lists me msg body said all f g ms a.1)

-- ---- entries from an offset on

-- the entry stands in the list, where it begins, behind the first `low` marks
record Placed (xs : List Mark) (low : ℕ) (p : ℕ × Entry) : Type 0 where
  pub at : ℕ
  pub behind : low ≤ at
  pub within : at < length xs
  pub here : slice_index_or xs at Reset ≡ Added p.1
  pub ends : p.0 ≡ end_of_marks (take at xs)

-- the first mark behind a cut
at_cut : (c : ℕ) (xs : List Mark) (e : Entry) (ms : List Mark) → drop c xs ≡ Added e ∷ ms → slice_index_or xs c Reset ≡ Added e
at_cut zero [] e ms d = cc
at_cut zero (x ∷ xs) e ms d = cc
at_cut (suc c) [] e ms d = cc
at_cut (suc c) (x ∷ xs) e ms d = at_cut c xs e ms d

-- No entry is empty. So one that begins at the end of a prefix, or behind it, isn't in the prefix.
module _ (xs : List Mark) (some : (k : ℕ) → k < length xs → HasBytes (slice_index_or xs k Reset)) (low q offset : ℕ) (long : low ≤ q) (place : PlaceSeen xs offset q) where
  -- the first of some entries is at its place
  first_placed : (at : ℕ) (base : List Label) (e : Entry) (es : List Entry) → Stands at base (e ∷ es) xs → offset ≤ at → Placed xs low (at, e)
  first_placed at base e es s l =
      let r = one_more s.cut xs e es s.entries in
      let here : slice_index_or xs s.cut Reset ≡ Added e = at_cut s.cut xs e (map Added es) s.entries in
      let size : 0 < length e.bytes = subst HasBytes here (some s.cut r.0) in
      let next : end_of_marks (take (suc s.cut) xs) ≡ end_of_marks (take s.cut xs ++ Added e ∷ []) = ap end_of_marks r.1 in
      let sum = end_append (take s.cut xs) (Added e ∷ []) in
      record {
        at = s.cut;
        behind = elim (cases_lt s.cut low) [
          | inl less ↦ absurd (omega (arith, end_more (suc s.cut) q xs (omega arith), next, sum, s.begins.ends, place.ends, size, l))
          | inr more ↦ more
        ];
        within = r.0;
        here = here;
        ends = s.begins.ends;
      }

  -- all that begin at an offset or behind it
  placed : (at : ℕ) (base : List Label) (es : List Entry) → Stands at base es xs → Each (Placed xs low) (placed_from offset at es)
  placed at base [] s = tt
  placed at base (e ∷ es) s =
      let rest = placed (at + length e.bytes) e.registers es (goes_on at base e es xs s) in
      cond_both (nat_le offset at) ((at, e) ∷ placed_from offset (at + length e.bytes) es) (placed_from offset (at + length e.bytes) es) (Each (Placed xs low))
      (λ t. (first_placed at base e es s (leb-true offset at t), rest)) (λ _. rest)

-- a letter that the node gives for a place is one of all that it gives
given_in : (me : ℕ) (n : reduced.Node) (s : reduced.Route) (others : List (ℕ × ℕ)) (queue : List ℕ) (k c : ℕ) (x : reduced.Letter) → n.head ≤ k → k < length n.spool → k < c →
    In x (rules.to_each me (reduced.Replicate s.epoch k (slice_index_or n.spool k Reset) n.head) s.others) → In x (all_given me n (reduced.Open s others queue) c)
given_in me n s others queue k zero x a b l i = absurd (omega arith)
given_in me n s others queue k (suc c) x a b l i =
    let p = reduced.Open s others queue in
    elim (cases_lt k c) [
      | inl less ↦ in_append_left (all_given me n p c) (rules.given me n c p) x (given_in me n s others queue k c x a b less i)
      | inr more ↦ (let z : k ≡ c = omega arith in
          let t : nat_le n.head k ≡ true = le-leb n.head k a in
          let u : nat_lt k (length n.spool) ≡ true = lt-ltb k (length n.spool) b in
          let now : In x (rules.given me n k p) = rw (t, u) i in
          in_right x (all_given me n p c) (rules.given me n c p) (subst (λ d. In x (rules.given me n d p)) z now))
    ]

module _ (num : List ℕ → ℕ) (j me : List ℕ) (m : full.Member) (n : reduced.Node) (seen : MemberSeen num me m n) (h : History) where
  -- ---- an open primary

  module _ (r : full_routes.Route) (s : reduced.Route) (route : RouteSeen num me r s) (held : List (ℕ × ℕ)) (queue : List ℕ) (ok : IsOpen h n s held) where
    -- the heads that are told, and the entries that are given
    abbrev heads : List reduced.Letter
    heads = rules.to_each (num me) (reduced.Head s.epoch n.head) s.others

    abbrev gives : List reduced.Letter
    gives = all_given (num me) n (reduced.Open s held queue) (length n.spool)

    -- the spool is the epoch's list
    whole : h.list r.epoch ≡ n.spool
    whole = sym (ok.chosen.whole ∙ ap h.list route.epoch)

    -- no entry of the spool is empty
    some : (k : ℕ) → k < length n.spool → HasBytes (slice_index_or n.spool k Reset)
    some k l = subst (λ xs. HasBytes (slice_index_or xs k Reset)) whole (h.bytes r.epoch k (subst (λ xs. k < length xs) (sym whole) l))

    -- to one member, some entries
    to_one : (to : List ℕ) → In (num to) s.others → (ps : List (ℕ × Entry)) → Each (Placed n.spool n.head) ps → SendsSeen num h.list (heads ++ gives) me (resending.entries_to j r.epoch m.spool.head to ps)
    to_one to i [] a = tt
    to_one to i (p ∷ ps) a =
        let k = a.0.at in
        let body = reduced.Replicate s.epoch k (slice_index_or n.spool k Reset) n.head in
        let given : In (rules.letter (num me) (num to) body) (heads ++ gives) = in_right (rules.letter (num me) (num to) body) heads gives
        (given_in (num me) n s held queue k (length n.spool) (rules.letter (num me) (num to) body) a.0.behind a.0.within a.0.within (in_each (num me) body (num to) s.others i)) in
        let entry : In (rules.letter (num me) (num to) (reduced.Replicate s.epoch k (Added p.1) n.head)) (heads ++ gives) =
        subst (λ x. In (rules.letter (num me) (num to) (reduced.Replicate s.epoch k x n.head)) (heads ++ gives)) a.0.here given in
        let at : PlaceSeen n.spool p.0 k = record { within = omega (arith, a.0.within); ends = a.0.ends } in (
          (
            k,
            n.head,
            n.head,
            subst (λ e. In (rules.letter (num me) (num to) (reduced.Replicate e k (Added p.1) n.head)) (heads ++ gives)) route.epoch entry,
            subst (λ xs. PlaceSeen xs p.0 k) (sym whole) at,
            subst (λ xs. PlaceSeen xs m.spool.head n.head) (sym whole) seen.spool.heads,
            omega arith,
            inl refl,
          ),
          to_one to i ps a.1,
        )

    -- to each member the entries from the end on that it is known to hold
    behind_held : (ends : List (List ℕ × ℕ)) (others : List (ℕ × ℕ)) → HeldSeen num n.spool ends others → Each (λ (p : ℕ × ℕ). n.head ≤ p.1) others → ((x : ℕ) → In x (names others) → In x s.others) →
        SendsSeen num h.list (heads ++ gives) me (resending.entries_behind j r.epoch m ends)
    behind_held [] [] a b f = tt
    behind_held (p ∷ ends) (q ∷ others) a b f =
        let goes = resending.entries_to j r.epoch m.spool.head p.0 (placed_from p.1 m.spool.begin m.spool.entries) in
        let test = nat_lt p.1 (spool_end m.spool) in
        each_append (λ (x : Send). MessageSeen num h.list (heads ++ gives) me x.to x.msg) (if test then goes else []) (resending.entries_behind j r.epoch m ends)
        (cond_both test goes [] (SendsSeen num h.list (heads ++ gives) me)
        (λ _. to_one p.0 (subst (λ x. In x s.others) a.0 (f q.0 (inl refl))) (placed_from p.1 m.spool.begin m.spool.entries)
        (placed n.spool some n.head q.1 p.1 b.0 a.1 m.spool.begin m.spool.base m.spool.entries (stands_of m.spool n.spool n.head seen.spool)))
        (λ _. tt))
        (behind_held ends others a.2 b.1 (λ x i. f x (inr i)))
    behind_held [] (q ∷ others) a b f = absurd a
    behind_held (p ∷ ends) [] a b f = absurd a

    -- both
    open_seen : (ends : List (List ℕ × ℕ)) → HeldSeen num n.spool ends held → Each (λ (p : ℕ × ℕ). n.head ≤ p.1) held → SendsSeen num h.list (heads ++ gives) me (resending.resent j m (full_part.Open r ends))
    open_seen ends a b =
        each_append (λ (x : Send). MessageSeen num h.list (heads ++ gives) me x.to x.msg) (resending.entries_behind j r.epoch m ends) (full.to_each (wire.Head j r.epoch m.spool.head m.spool.begin) r.others)
        (behind_held ends held a b (λ x i. subst (λ ms. In x ms) ok.all i))
        (each_seen num h.list me (wire.Head j r.epoch m.spool.head m.spool.begin) (reduced.Head s.epoch n.head) (heads ++ gives)
        (λ to i. (n.head, subst (λ e. In (rules.letter (num me) (num to) (reduced.Head e n.head)) (heads ++ gives)) route.epoch i, subst (λ xs. PlaceSeen xs m.spool.head n.head) (sym whole) seen.spool.heads))
        r.others (λ l i. in_append_left heads gives l (subst (λ ms. In l (rules.to_each (num me) (reduced.Head s.epoch n.head) ms)) (sym route.others) i)))

  -- ---- one that isn't open

  -- what it asks again, of those that haven't told
  asked : (p : full_parts.Part) (q : reduced.Part) → PartSeen num me n.spool p q → PartOf h n q → ((r : full_routes.Route) (held : List (List ℕ × ℕ)) → p ≡ full_part.Open r held → ⊥) → SendsSeen num h.list (rules.resent (num me) n q) me (resending.resent j m p)
  asked full_part.Closed q a ok d = tt
  asked (full_part.Opening r req reports None) (reduced.Opening s others told) a ok d =
      let said = rules.letter (num me) rules.keys (reduced.Ask s.epoch) ∷ rules.to_each (num me) (reduced.Promise s.epoch) s.others in (
        (s.epoch, inl refl),
        to_missing num h.list me (wire.Promise j r.epoch) (reduced.Promise s.epoch) said s.others
            (λ to x. subst (λ e. In (rules.letter (num me) (num to) (reduced.Promise e)) said) a.0.epoch x) (λ x i. inr i) (full_slots.missing reports)
            (missing_in num ReportSeen reports others a.1 s.others (λ x i. subst (λ ms. In x ms) ok.all i)),
      )
  asked (full_part.Opening r req reports (Some end)) (reduced.Opening s others told) a ok d =
      let said = rules.letter (num me) rules.keys (reduced.Ask s.epoch) ∷ rules.to_each (num me) (reduced.Promise s.epoch) s.others in
      to_missing num h.list me (wire.Promise j r.epoch) (reduced.Promise s.epoch) said s.others
      (λ to x. subst (λ e. In (rules.letter (num me) (num to) (reduced.Promise e)) said) a.0.epoch x) (λ x i. inr i) (full_slots.missing reports)
      (missing_in num ReportSeen reports others a.1 s.others (λ x i. subst (λ ms. In x ms) ok.all i))
  asked (full_part.Adopting r reached) (reduced.Adopting s others) a ok d =
      let image = rules.image_of n in
      let said = rules.to_each (num me) (reduced.Adopt s.epoch image) s.others in
      to_missing num h.list me (wire.Adopt j r.epoch m.spool) (reduced.Adopt s.epoch image) said s.others
      (λ to x. (image, subst (λ e. In (rules.letter (num me) (num to) (reduced.Adopt e image)) said) a.0.epoch x, seen.spool)) (λ x i. i) (full_slots.missing reached)
      (missing_in num Anything reached others a.1 s.others (λ x i. subst (λ ms. In x ms) ok.all i))
  asked (full_part.Syncing r req) (reduced.Syncing s) a ok d =
      ((r.epoch, j, refl, subst (λ e. In (rules.letter (num me) rules.keys (reduced.Txn e)) (rules.letter (num me) rules.keys (reduced.Txn s.epoch) ∷ [])) a.epoch (inl refl)), tt)
  asked (full_part.Open r held) q a ok d = absurd (d r held refl)
  asked p q a ok d = absurd a

  -- ---- any part

  -- what is asked again is among more
  more : (q : reduced.Part) (p : full_parts.Part) → SendsSeen num h.list (rules.resent (num me) n q) me (resending.resent j m p) → SendsSeen num h.list (rules.resent (num me) n q ++ all_given (num me) n q (length n.spool)) me (resending.resent j m p)
  more q p x =
      let said = rules.resent (num me) n q in
      let gives = all_given (num me) n q (length n.spool) in
      sends_more num h.list said (said ++ gives) me (λ l i. in_append_left said gives l i) (resending.resent j m p) x

  -- what an open one sends again, and what another one asks
  by_part : (p : full_parts.Part) (q : reduced.Part) → PartSeen num me n.spool p q → PartOf h n q → HoldTheHead n.head q →
      SendsSeen num h.list (rules.resent (num me) n q ++ all_given (num me) n q (length n.spool)) me (resending.resent j m p)
  by_part (full_part.Open r ends) (reduced.Open s held queue) a ok b = open_seen r s a.0 held queue ok ends a.1 b
  by_part (full_part.Open r ends) reduced.Closed a ok b = absurd a
  by_part (full_part.Open r ends) (reduced.Opening s reports told) a ok b = absurd a
  by_part (full_part.Open r ends) (reduced.Adopting s reached) a ok b = absurd a
  by_part (full_part.Open r ends) (reduced.Syncing s) a ok b = absurd a
  by_part full_part.Closed q a ok b = tt
  by_part (full_part.Opening r req reports stored) q a ok b = more q (full_part.Opening r req reports stored) (asked (full_part.Opening r req reports stored) q a ok (λ x y e. cc))
  by_part (full_part.Adopting r reached) q a ok b = more q (full_part.Adopting r reached) (asked (full_part.Adopting r reached) q a ok (λ x y e. cc))
  by_part (full_part.Syncing r req) q a ok b = more q (full_part.Syncing r req) (asked (full_part.Syncing r req) q a ok (λ x y e. cc))

  -- whatever the part is
  pub resending_seen : NodeOf h n → HoldTheHead n.head n.part → SendsSeen num h.list (rules.resent (num me) n n.part ++ all_given (num me) n n.part (length n.spool)) me (resending.resent j m m.part)
  resending_seen ok b = by_part m.part n.part seen.part ok.part b
