-- What is released between two offsets is what a commit consumes between them.
use Rattle.std.proofs.Common.{◌≡◌, ℕ, ◌<◌, ◌≤◌, List, [], ◌∷◌, ◌++◌, length, drop, map, filter, refl, ap, sym, ◌∙◌, arith, true, false, leb, nat_lt, inl, inr, append_assoc, ◌&&◌}
use Rattle.std.proofs.lemmas.Grind.{common_steps}
use Rattle.std.proofs.lemmas.Bool.{cond_both, cases_lt, leb-true, leb-false}
use Rattle.std.proofs.lemmas.List.{append-nil, map-append}
use Rattle.std.proofs.lemmas.List.Elements.{filter-append}
use Rattle.gz_model.specs.Prefix.{IsPrefix}
use Rattle.gz_frame.specs.Messages as frame
use Rattle.gz_frame.specs.Release.{Release}
use Rattle.gz_sequencer.specs.Committed.{released_in}
use Rattle.gz_promise.specs.Parts as promise
use Rattle.gz_promise.specs.Parts.{is_between, read_of, last_from, NeverFall}
use Rattle.gz_reader.specs.Lists.{Begins}
use Rattle.gz_reader.specs.Reader.{Message, committed}
use Rattle.gz_once.specs.Applications.{App, part, reach, upto}
use Rattle.gz_once.proofs.Texts.{upto_begins}
use Rattle.gz_once.proofs.Claims.{commits_more, prefix_drop, upto_none, upto_upto}
use Rattle.gz_account.specs.Account.{Numbers, newly, releases_of}

-- a text's committed messages go on by what the newest one releases
newly_is : (m : Message) (t : List Message) → committed t ++ newly m t ≡ committed (m ∷ t)
newly_is m t = prefix_drop (committed t) (committed (m ∷ t)) (commits_more t (m ∷ t) (inr (begins_self t)))
  where
    begins_self : (u : List Message) → Begins u u
    begins_self [] = refl
    begins_self (x ∷ u) = inl refl

-- the messages with one end are all between, or none is
ends_in : (f : Message → frame.Message) (from to end : ℕ) (ms : List Message) → from < end → end ≤ to →
    filter (is_between from to) (map (λ r. record { message = f r; end = end }) ms) ≡ map (λ r. record { message = f r; end = end }) ms
ends_in f from to end [] l h = refl
ends_in f from to end (m ∷ ms) l h =
    let b : (nat_lt from end && leb end to) ≡ true = grind (arith, common_steps) in
    rw b (ap (λ (v : List Release). record { message = f m; end = end } ∷ v) (ends_in f from to end ms l h))

ends_low : (f : Message → frame.Message) (from to end : ℕ) (ms : List Message) → end ≤ from → filter (is_between from to) (map (λ r. record { message = f r; end = end }) ms) ≡ []
ends_low f from to end [] l = refl
ends_low f from to end (m ∷ ms) l =
    let b : (nat_lt from end && leb end to) ≡ false = grind (arith, common_steps) in
    rw b (ends_low f from to end ms l)

ends_high : (f : Message → frame.Message) (from to end : ℕ) (ms : List Message) → to < end → filter (is_between from to) (map (λ r. record { message = f r; end = end }) ms) ≡ []
ends_high f from to end [] l = refl
ends_high f from to end (m ∷ ms) l =
    let b : (nat_lt from end && leb end to) ≡ false = grind (arith, common_steps) in
    rw b (ends_high f from to end ms l)

messages_alone : (f : Message → frame.Message) (end : ℕ) (ms : List Message) → released_in (map (λ r. record { message = f r; end = end }) ms) ≡ map f ms
messages_alone f end [] = refl
messages_alone f end (m ∷ ms) = ap (λ (v : List frame.Message). f m ∷ v) (messages_alone f end ms)

upto_all : (g : App) (k n : ℕ) (t : List Message) → reach g k t ≤ n → upto g k n t ≡ t
upto_all g k n [] l = refl
upto_all g k n (m ∷ t) l = cond_both (leb (reach g k (m ∷ t)) n) _ _ (λ v. v ≡ m ∷ t) (λ _. refl) (λ e. absurd (let h = leb-false (reach g k (m ∷ t)) n e in omega arith))

upto_less : (g : App) (k n : ℕ) (m : Message) (t : List Message) → n < reach g k (m ∷ t) → upto g k n (m ∷ t) ≡ upto g k n t
upto_less g k n m t l = cond_both (leb (reach g k (m ∷ t)) n) _ _ (λ v. v ≡ upto g k n t) (λ e. absurd (let h = leb-true (reach g k (m ∷ t)) n e in omega arith)) (λ _. refl)

drop_prefix : {A : Type 0} (xs ys zs : List A) → IsPrefix xs ys → drop (length xs) (ys ++ zs) ≡ drop (length xs) ys ++ zs
drop_prefix [] ys zs p = refl
drop_prefix (x ∷ xs) [] zs p = absurd (let l : length ((x ∷ xs) ++ p.0) ≡ 0 = ap length p.1 in omega arith)
drop_prefix (x ∷ xs) (y ∷ ys) zs p = drop_prefix xs ys zs (p.0, tail_same p.1)
  where
    tail_same : (x ∷ (xs ++ p.0)) ≡ y ∷ ys → xs ++ p.0 ≡ ys
    tail_same e = cc

module _ (n : Numbers) (g : App) (k : ℕ) where
  -- all of a text ends at or before its end
  none_behind : (t : List Message) (from to : ℕ) → reach g k t ≤ from → filter (is_between from to) (releases_of n g k t) ≡ []
  none_behind [] from to l = refl
  none_behind (m ∷ t) from to l =
      filter-append (is_between from to) (releases_of n g k t) (map (λ r. record { message = n.message_of r; end = reach g k (m ∷ t) }) (newly m t))
      ∙ rw (none_behind t from to (omega arith), ends_low n.message_of from to (reach g k (m ∷ t)) (newly m t) l) refl

  -- what the newest message releases
  abbrev last_of : Message → List Message → List Release
  last_of m t = map (λ r. record { message = n.message_of r; end = reach g k (m ∷ t) }) (newly m t)

  abbrev Is : List Message → ℕ → ℕ → Type 0
  Is t from to = promise.part from to (releases_of n g k t) ≡ map n.message_of (part g k t from to)

  -- the newest message's line ends behind the second offset
  part_above : (m : Message) (t : List Message) (from to : ℕ) → from ≤ to → to < reach g k (m ∷ t) → Is t from to → Is (m ∷ t) from to
  part_above m t from to l h ih =
      ap (λ (rs : List Release). released_in rs) (filter-append (is_between from to) (releases_of n g k t) (last_of m t)
      ∙ rw (ends_high n.message_of from to (reach g k (m ∷ t)) (newly m t) h) (append-nil (filter (is_between from to) (releases_of n g k t))))
      ∙ ih
      ∙ ap (λ (v : List Message). map n.message_of (drop (length (committed v)) (committed (upto g k to t)))) (sym (upto_less g k from m t (omega arith)))
      ∙ ap (λ (v : List Message). map n.message_of (drop (length (committed (upto g k from (m ∷ t)))) (committed v))) (sym (upto_less g k to m t h))

  -- it ends at or before the first one
  part_under : (m : Message) (t : List Message) (from to : ℕ) → from ≤ to → reach g k (m ∷ t) ≤ from → Is (m ∷ t) from to
  part_under m t from to l h =
      ap (λ (rs : List Release). released_in rs) (none_behind (m ∷ t) from to h)
      ∙ sym (ap (λ (v : List Message). map n.message_of (drop (length (committed v)) (committed (upto g k to (m ∷ t))))) (upto_all g k from (m ∷ t) h)
      ∙ ap (λ (v : List Message). map n.message_of (drop (length (committed (m ∷ t))) (committed v))) (upto_all g k to (m ∷ t) (omega arith))
      ∙ ap (λ (v : List Message). map n.message_of v) (drop_all (committed (m ∷ t))))
    where
      drop_all : {A : Type 0} (xs : List A) → drop (length xs) xs ≡ []
      drop_all [] = refl
      drop_all (x ∷ xs) = drop_all xs

  -- it ends between them
  part_within : (m : Message) (t : List Message) (from to : ℕ) → from < reach g k (m ∷ t) → reach g k (m ∷ t) ≤ to → Is t from to → Is (m ∷ t) from to
  part_within m t from to low high ih =
      let R : List Release = last_of m t in
      let F : List Message = committed (upto g k from t) in
      let whole : upto g k to t ≡ t = upto_all g k to t (omega arith) in
      let news : map n.message_of (newly m t) ≡ released_in R = sym (messages_alone n.message_of (reach g k (m ∷ t)) (newly m t)) in
      let split : drop (length F) (committed (m ∷ t)) ≡ drop (length F) (committed t) ++ newly m t =
      ap (λ (v : List Message). drop (length F) v) (sym (newly_is m t)) ∙ drop_prefix F (committed t) (newly m t) (commits_more (upto g k from t) t (upto_begins g k from t)) in
      ap (λ (rs : List Release). released_in rs) (filter-append (is_between from to) (releases_of n g k t) R ∙ ap (λ (rs : List Release). filter (is_between from to) (releases_of n g k t) ++ rs) (ends_in n.message_of from to (reach g k (m ∷ t)) (newly m t) low high))
      ∙ map-append (λ r. r.message) (filter (is_between from to) (releases_of n g k t)) R
      ∙ ap (λ (v : List frame.Message). v ++ released_in R) ih
      ∙ ap (λ (v : List Message). map n.message_of (drop (length F) (committed v)) ++ released_in R) whole
      ∙ ap (λ (v : List frame.Message). map n.message_of (drop (length F) (committed t)) ++ v) (sym news)
      ∙ sym (map-append n.message_of (drop (length F) (committed t)) (newly m t))
      ∙ ap (λ (v : List Message). map n.message_of v) (sym split)
      ∙ ap (λ (v : List Message). map n.message_of (drop (length (committed v)) (committed (m ∷ t)))) (sym (upto_less g k from m t low))
      ∙ ap (λ (v : List Message). map n.message_of (drop (length (committed (upto g k from (m ∷ t)))) (committed v))) (sym (upto_all g k to (m ∷ t) high))

  pub part_is : (t : List Message) (from to : ℕ) → from ≤ to → Is t from to
  part_is [] from to l = refl
  part_is (m ∷ t) from to l = elim (cases_lt to (reach g k (m ∷ t))) [
    | inl h ↦ part_above m t from to l h (part_is t from to l)
    | inr h ↦ elim (cases_lt from (reach g k (m ∷ t))) [
      | inl low ↦ part_within m t from to low h (part_is t from to l)
      | inr low ↦ part_under m t from to l low
    ]
  ]

  -- all that a text releases
  pub all_is : (t : List Message) → released_in (releases_of n g k t) ≡ map n.message_of (committed t)
  all_is [] = refl
  all_is (m ∷ t) =
      map-append (λ r. r.message) (releases_of n g k t) (last_of m t)
      ∙ ap (λ (v : List frame.Message). v ++ released_in (last_of m t)) (all_is t)
      ∙ ap (λ (v : List frame.Message). map n.message_of (committed t) ++ v) (messages_alone n.message_of (reach g k (m ∷ t)) (newly m t))
      ∙ sym (map-append n.message_of (committed t) (newly m t))
      ∙ ap (λ (v : List Message). map n.message_of v) (newly_is m t)

  -- what offsets that never fall have read, one after another
  reads_on : (t : List Message) (from : ℕ) (offsets : List ℕ) → NeverFall from offsets →
      map n.message_of (committed (upto g k from t)) ++ read_of from offsets (releases_of n g k t) ≡ map n.message_of (committed (upto g k (last_from from offsets) t))
  reads_on t from [] fall = append-nil (map n.message_of (committed (upto g k from t)))
  reads_on t from (to ∷ offsets) fall =
      let A : List Message = committed (upto g k from t) in
      let B : List Message = committed (upto g k to t) in
      let rest : List frame.Message = read_of to offsets (releases_of n g k t) in
      let join : A ++ part g k t from to ≡ B = prefix_drop A B (commits_more (upto g k from t) (upto g k to t) (upto_upto g k from to t fall.0)) in
      ap (λ (v : List frame.Message). map n.message_of A ++ (v ++ rest)) (part_is t from to fall.0)
      ∙ sym (append_assoc (map n.message_of A) (map n.message_of (part g k t from to)) rest)
      ∙ ap (λ (v : List frame.Message). v ++ rest) (sym (map-append n.message_of A (part g k t from to)) ∙ ap (λ (v : List Message). map n.message_of v) join)
      ∙ reads_on t to offsets fall.1

  -- it is a prefix of what the source has committed
  pub read_prefix : (t : List Message) (offsets : List ℕ) → NeverFall (g.begin k) offsets → IsPrefix (read_of (g.begin k) offsets (releases_of n g k t)) (released_in (releases_of n g k t))
  read_prefix t offsets fall =
      let to : ℕ = last_from (g.begin k) offsets in
      let p : IsPrefix (committed (upto g k to t)) (committed t) = commits_more (upto g k to t) t (upto_begins g k to t) in
      let is : read_of (g.begin k) offsets (releases_of n g k t) ≡ map n.message_of (committed (upto g k to t)) =
      ap (λ (v : List Message). map n.message_of (committed v) ++ read_of (g.begin k) offsets (releases_of n g k t)) (sym (upto_none g k t)) ∙ reads_on t (g.begin k) offsets fall in (
        map n.message_of p.0,
        ap (λ (v : List frame.Message). v ++ map n.message_of p.0) is ∙ sym (map-append n.message_of (committed (upto g k to t)) p.0) ∙ ap (λ (v : List Message). map n.message_of v) p.1 ∙ sym (all_is t),
      )
