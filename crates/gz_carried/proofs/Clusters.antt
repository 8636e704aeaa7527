-- Brokers by name, and the letters of a step.
use Rattle.std.proofs.Common.{◌≡◌, ℕ, ◌+◌, ◌⊎◌, List, [], ◌∷◌, ap, sym, ◌∙◌, eqb, subst, inl, inr, false}
use Rattle.std.specs.Prelude.{if◌then◌else◌}
use Rattle.std.specs.Str.{bytes_eq}
use Rattle.std.proofs.lemmas.Bool.{cond_both, cases_Bool, eqb-true, eqb-false, ne_eqb}
use Rattle.gz_wire.specs.declared.msg.Send.{Send}
use Rattle.gz_broker.specs.Brokers.{Broker}
use Rattle.gz_cluster.specs.Cluster.{Letter, with_broker, letters_from}
use Rattle.gz_lineage.specs.Lists.{In, Each}
use Rattle.gz_lineage.proofs.Listed.{each_in, each_map}
use Rattle.gz_carry.specs.Seen.{IsNumbering}
use Rattle.gz_carried.specs.Carried.{Distinct}

-- a letter of these is one of the sends
pub sent_is : (n : ℕ) (from : List ℕ) (count : ℕ) (ss : List Send) (P : Send → Type 0) → Each P ss → (l : Letter) → In l (letters_from n from count ss) → (l.from ≡ from) × ((s : Send) × (l.to ≡ s.to) × (l.msg ≡ s.msg) × P s)
sent_is n from count [] P a l i = absurd i
sent_is n from count (s ∷ ss) P a l i = elim i [
  | inl e ↦ (ap (λ (x : Letter). x.from) e, (s, ap (λ (x : Letter). x.to) e, ap (λ (x : Letter). x.msg) e, a.0))
  | inr k ↦ sent_is (n + 1) from (count + 1) ss P a.1 l k
]

module _ (num : List ℕ → ℕ) (same : IsNumbering num) (new : Broker) where
  -- the new one, or one of another name
  pub with_in : (d : Broker) (bs : List Broker) → Distinct bs → In d (with_broker new bs) → (d ≡ new) ⊎ (In d bs × (bytes_eq new.name d.name ≡ false))
  with_in d [] a i = absurd i
  with_in d (x ∷ xs) a i = elim (cases_Bool (bytes_eq new.name x.name)) [
    | inl t ↦ (let k : In d (new ∷ xs) = subst (λ b. In d (if b then new ∷ xs else x ∷ with_broker new xs)) t i in
        let z : num new.name ≡ num x.name = eqb-true (num new.name) (num x.name) (sym (same new.name x.name) ∙ t) in
        elim k [
          | inl e ↦ inl e
          | inr m ↦ inr (inr m, same new.name d.name ∙ ap (λ n. eqb n (num d.name)) z ∙ sym (same x.name d.name) ∙ each_in (λ (d : Broker). bytes_eq x.name d.name ≡ false) xs d a.0 m)
        ])
    | inr t ↦ (let k : In d (x ∷ with_broker new xs) = subst (λ b. In d (if b then new ∷ xs else x ∷ with_broker new xs)) t i in
        elim k [
          | inl e ↦ inr (inl e, ap (λ (y : Broker). bytes_eq new.name y.name) e ∙ t)
          | inr m ↦ elim (with_in d xs a.1 m) [ inl e ↦ inl e | inr p ↦ inr (inr p.0, p.1) ]
        ])
  ]

  each_with : (P : Broker → Type 0) → P new → (bs : List Broker) → Each P bs → Each P (with_broker new bs)
  each_with P p [] a = tt
  each_with P p (x ∷ xs) a = cond_both (bytes_eq new.name x.name) (new ∷ xs) (x ∷ with_broker new xs) (Each P) (λ _. (p, a.1)) (λ _. (a.0, each_with P p xs a.1))

  pub distinct_with : (bs : List Broker) → Distinct bs → Distinct (with_broker new bs)
  distinct_with [] a = tt
  distinct_with (x ∷ xs) a = cond_both (bytes_eq new.name x.name) (new ∷ xs) (x ∷ with_broker new xs) Distinct
      (λ t. let z : num new.name ≡ num x.name = eqb-true (num new.name) (num x.name) (sym (same new.name x.name) ∙ t) in
      (each_map (λ d e. same new.name d.name ∙ ap (λ n. eqb n (num d.name)) z ∙ sym (same x.name d.name) ∙ e) xs a.0, a.1))
      (λ t. let z : (num x.name ≡ num new.name) → ⊥ = λ e. eqb-false (num new.name) (num x.name) (sym (same new.name x.name) ∙ t) (sym e) in
      (each_with (λ (d : Broker). bytes_eq x.name d.name ≡ false) (same x.name new.name ∙ ne_eqb (num x.name) (num new.name) z) xs a.0, distinct_with xs a.1))
