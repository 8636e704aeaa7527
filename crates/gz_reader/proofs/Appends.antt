-- What a reader makes of the appends of a producer.
use Rattle.std.proofs.Common.{◌≡◌, ℕ, ◌+◌, ◌<◌, ◌≤◌, List, [], ◌∷◌, ◌++◌, refl, ap, sym, ◌∙◌, arith, Bool, true, false, cond, leb, subst, ◌⊎◌, inl, inr, append_assoc, append-nil}
use Rattle.std.proofs.lemmas.Bool.{cond_both, leb-true, leb-false, true≢false}
use Rattle.gz_reader.specs.Lists.{In}
use Rattle.gz_reader.specs.Reader.{values_of, Line, Message, Kind, Continue, Acknowledge, Outside, Rest, Reader, updated, line_message, above, up_to, raise, take_line, take_lines, take_ack, take_kind, takes, read, pour, acknowledgement}
use Rattle.gz_reader.proofs.Updates.{upd_here, upd_other, upd_each}

-- the clocks rise, from n on
abbrev pub Ascending : ℕ → List Line → Type 0
Ascending n [] = Unit {0}
Ascending n (l ∷ ls) = (n ≤ l.clock) × Ascending (l.clock + 1) ls

-- each clock is below n
abbrev pub Below : ℕ → List Line → Type 0
Below n [] = Unit {0}
Below n (l ∷ ls) = (l.clock < n) × Below n ls

pub below_up : (m n : ℕ) (ls : List Line) → m ≤ n → Below m ls → Below n ls
below_up m n [] l b = tt
below_up m n (x ∷ ls) l b = (omega (arith, b.0), below_up m n ls l b.1)

pub ascending_down : (m n : ℕ) (ls : List Line) → m ≤ n → Ascending n ls → Ascending m ls
ascending_down m n [] l b = tt
ascending_down m n (x ∷ ls) l b = (omega (arith, b.0), b.1)

pub above_le : (n : ℕ) (ls : List Line) → Ascending n ls → n ≤ above n ls
above_le n [] r = omega arith
above_le n (l ∷ ls) r = let h = above_le (l.clock + 1) ls r.1 in omega (arith, r.0, h)

pub below_above : (n : ℕ) (ls : List Line) → Ascending n ls → Below (above n ls) ls
below_above n [] r = tt
below_above n (l ∷ ls) r = let h = above_le (l.clock + 1) ls r.1 in (omega (arith, h), below_above (l.clock + 1) ls r.1)

pub above_push : (n : ℕ) (ls : List Line) (l : Line) → above n (ls ++ l ∷ []) ≡ l.clock + 1
above_push n [] l = refl
above_push n (x ∷ ls) l = above_push (x.clock + 1) ls l

-- lines that are too low change nothing
pub low_lines : (r : Rest) (ls : List Line) → Below (above r.next r.chain) ls → take_lines r ls ≡ r
low_lines r [] b = refl
low_lines r (l ∷ ls) b = cond_both (leb (above r.next r.chain) l.clock) _ _ (λ x. take_lines x ls ≡ r)
    (λ e. absurd (let h = leb-true (above r.next r.chain) l.clock e in omega (arith, b.0)))
    (λ e. low_lines r ls b.1)

-- lines that rise are the chain's end
pub high_lines : (r : Rest) (ls : List Line) → Ascending (above r.next r.chain) ls → take_lines r ls ≡ record { next = r.next; chain = r.chain ++ ls }
high_lines r [] b = ap (λ c. record { next = r.next; chain = c }) (sym (append-nil r.chain))
high_lines r (l ∷ ls) b = cond_both (leb (above r.next r.chain) l.clock) _ _ (λ x. take_lines x ls ≡ record { next = r.next; chain = r.chain ++ l ∷ ls })
    (λ e. let q : Rest = record { next = r.next; chain = r.chain ++ l ∷ [] } in
    high_lines q ls (subst (λ n. Ascending n ls) (sym (above_push r.next r.chain l)) b.1) ∙ ap (λ c. record { next = r.next; chain = c }) (append_assoc r.chain (l ∷ []) ls))
    (λ e. absurd (let h = leb-false (above r.next r.chain) l.clock e in omega (arith, b.0)))

-- none of an ascending list is up to a clock below its begin
pub none_up_to : (p a n : ℕ) (ls : List Line) → Ascending n ls → a < n → up_to p a ls ≡ []
none_up_to p a n [] r l = refl
none_up_to p a n (x ∷ ls) r l = cond_both (leb x.clock a) _ _ (λ v. v ≡ [])
    (λ e. absurd (let h = leb-true x.clock a e in omega (arith, r.0)))
    (λ e. none_up_to p a (x.clock + 1) ls r.1 (omega (arith, r.0)))

-- what is released has the producer
pub up_to_by : (p a : ℕ) (ls : List Line) (m : Message) → In m (up_to p a ls) → m.producer ≡ p
up_to_by p a [] m i = absurd i
up_to_by p a (l ∷ ls) m i = cond_both (leb l.clock a) _ _ (λ v. In m v → m.producer ≡ p)
    (λ _ j. elim j [ inl e ↦ ap (λ v. v.producer) e | inr k ↦ up_to_by p a ls m k ]) (λ _ j. up_to_by p a ls m j) i

pub own_join : (own : ℕ → Bool) (xs ys : List Message) → values_of own (xs ++ ys) ≡ values_of own xs ++ values_of own ys
own_join own [] ys = refl
own_join own (m ∷ xs) ys = cond_both (own m.producer) _ _ (λ v. v ≡ cond (own m.producer) (m.value ∷ values_of own xs) (values_of own xs) ++ values_of own ys)
    (λ e. ap (λ v. m.value ∷ v) (own_join own xs ys) ∙ ap (λ b. cond b (m.value ∷ values_of own xs) (values_of own xs) ++ values_of own ys) (sym e))
    (λ e. own_join own xs ys ∙ ap (λ b. cond b (m.value ∷ values_of own xs) (values_of own xs) ++ values_of own ys) (sym e))

-- messages of a producer that isn't the shard's
pub own_none : (own : ℕ → Bool) (ms : List Message) (p : ℕ) → own p ≡ false → ((m : Message) → In m ms → m.producer ≡ p) → values_of own ms ≡ []
own_none own [] p e f = refl
own_none own (m ∷ ms) p e f = cond_both (own m.producer) _ _ (λ v. v ≡ [])
    (λ t. absurd (true≢false (sym t ∙ ap own (f m (inl refl)) ∙ e))) (λ _. own_none own ms p e (λ n i. f n (inr i)))

-- one more draw, of which nothing was released
pub own_more : (own : ℕ → Bool) (d : ℕ) (ms : List Message) → ((m : Message) → In m ms → m.producer ≡ d → ⊥) → values_of (updated own d true) ms ≡ values_of own ms
own_more own d [] f = refl
own_more own d (m ∷ ms) f =
    ap (λ b. cond b (m.value ∷ values_of (updated own d true) ms) (values_of (updated own d true) ms)) (upd_other own d true m.producer (f m (inl refl)))
    ∙ ap (λ v. cond (own m.producer) (m.value ∷ v) v) (own_more own d ms (λ n i. f n (inr i)))

-- what the lines of one append change
pub pour_other : (p : ℕ) (ls : List Line) (t : List Message) (m : ℕ) → (m ≡ p → ⊥) → (read (pour p ls t)).rest m ≡ (read t).rest m
pour_other p [] t m d = refl
pour_other p (l ∷ ls) t m d = pour_other p ls (line_message p l ∷ t) m d
    ∙ upd_other (read t).rest p (take_line ((read t).rest p) l) m d

pub pour_here : (p : ℕ) (ls : List Line) (t : List Message) → (read (pour p ls t)).rest p ≡ take_lines ((read t).rest p) ls
pour_here p [] t = refl
pour_here p (l ∷ ls) t = pour_here p ls (line_message p l ∷ t)
    ∙ ap (λ r. take_lines r ls) (upd_here (read t).rest p (take_line ((read t).rest p) l))

pub pour_accepted : (p : ℕ) (ls : List Line) (t : List Message) → (read (pour p ls t)).accepted ≡ (read t).accepted
pour_accepted p [] t = refl
pour_accepted p (l ∷ ls) t = pour_accepted p ls (line_message p l ∷ t)

pub pour_in : (p : ℕ) (ls : List Line) (t : List Message) (m : Message) → In m t → In m (pour p ls t)
pour_in p [] t m i = i
pour_in p (l ∷ ls) t m i = pour_in p ls (line_message p l ∷ t) m (inr i)

pub pour_from : (p : ℕ) (ls : List Line) (t : List Message) (m : Message) → In m (pour p ls t) →
    In m t ⊎ ((m.producer ≡ p) × (m.kind ≡ Continue) × In (record { clock = m.clock; value = m.value }) ls)
pour_from p [] t m i = inl i
pour_from p (l ∷ ls) t m i = elim (pour_from p ls (line_message p l ∷ t) m i) [
  | inl j ↦ elim j [
    | inl e ↦ inr (ap (λ v. v.producer) e, ap (λ v. v.kind) e, inl (ap (λ v. record { clock = v.clock; value = v.value }) e))
    | inr k ↦ inl k
  ]
  | inr j ↦ inr (j.0, j.1, inr j.2)
]

pub raise_le : (n c : ℕ) → n ≤ raise n c
raise_le n c = cond_both (leb n c) (c + 1) n (λ x. n ≤ x) (λ e. let h = leb-true n c e in omega arith) (λ e. omega arith)

pub raise_above : (n c : ℕ) → c < raise n c
raise_above n c = cond_both (leb n c) (c + 1) n (λ x. c < x) (λ e. omega arith) (λ e. leb-false n c e)

pub raise_high : (n c : ℕ) → n ≤ c → raise n c ≡ c + 1
raise_high n c l = cond_both (leb n c) (c + 1) n (λ x. x ≡ c + 1) (λ e. refl) (λ e. absurd (let h = leb-false n c e in omega arith))

pub raise_low : (n c : ℕ) → c < n → raise n c ≡ n
raise_low n c l = cond_both (leb n c) (c + 1) n (λ x. x ≡ n) (λ e. absurd (let h = leb-true n c e in omega arith)) (λ e. refl)

-- an acknowledgement that is in a text is below what counts
take_next : (r : Rest) (l : Line) → (take_line r l).next ≡ r.next
take_next r l = cond_both (leb (above r.next r.chain) l.clock) _ _ (λ (x : Rest). x.next ≡ r.next) (λ _. refl) (λ _. refl)

next_kind : (s : Reader) (p c v : ℕ) (k : Kind) (m : ℕ) → (s.rest m).next ≤ ((take_kind s p c v k).rest m).next
next_kind s p c v Continue m = upd_each s.rest p (take_line (s.rest p) (record { clock = c; value = v })) (λ n r. (s.rest n).next ≤ r.next) (rw take_next (omega arith)) m (λ _. omega arith)
next_kind s p c v Acknowledge m = upd_each s.rest p (take_ack (s.rest p) c) (λ n r. (s.rest n).next ≤ r.next) (raise_le (s.rest p).next c) m (λ _. omega arith)
next_kind s p c v Outside m = upd_each s.rest p (take_ack (s.rest p) c) (λ n r. (s.rest n).next ≤ r.next) (raise_le (s.rest p).next c) m (λ _. omega arith)

pub ack_next : (p c : ℕ) (t : List Message) → In (acknowledgement p c) t → c < ((read t).rest p).next
ack_next p c [] i = absurd i
ack_next p c (m ∷ t) i = elim i [
  | inl e ↦ subst (λ x. c < ((takes (read t) x).rest p).next) e
      (subst (λ r. c < r.next) (sym (upd_here (read t).rest p (take_ack ((read t).rest p) c))) (raise_above ((read t).rest p).next c))
  | inr j ↦ (let h = ack_next p c t j in let k = next_kind (read t) m.producer m.clock m.value m.kind p in omega (arith, h, k))
]

-- one message changes what a reader has of its producer alone
kind_rest : (s : Reader) (p c v : ℕ) (k : Kind) (d : ℕ) → (d ≡ p → ⊥) → (take_kind s p c v k).rest d ≡ s.rest d
kind_rest s p c v Continue d f = upd_other s.rest p (take_line (s.rest p) (record { clock = c; value = v })) d f
kind_rest s p c v Acknowledge d f = upd_other s.rest p (take_ack (s.rest p) c) d f
kind_rest s p c v Outside d f = upd_other s.rest p (take_ack (s.rest p) c) d f

pub other_rest : (s : Reader) (m : Message) (d : ℕ) → (d ≡ m.producer → ⊥) → (takes s m).rest d ≡ s.rest d
other_rest s m d f = kind_rest s m.producer m.clock m.value m.kind d f

-- what one message releases is of its producer
kind_released : (s : Reader) (p c v : ℕ) (k : Kind) → (ms : List Message) × ((take_kind s p c v k).accepted ≡ s.accepted ++ ms) × ((m : Message) → In m ms → m.producer ≡ p)
kind_released s p c v Continue = ([], sym (append-nil s.accepted), λ m i. absurd i)
kind_released s p c v Acknowledge = (up_to p c (s.rest p).chain, refl, up_to_by p c (s.rest p).chain)
kind_released s p c v Outside = cond_both (leb (s.rest p).next c) _ _ (λ a. (ms : List Message) × (a ≡ s.accepted ++ ms) × ((m : Message) → In m ms → m.producer ≡ p))
    (λ _. (record { producer = p; clock = c; kind = Outside; value = v } ∷ [], refl, λ m i. elim i [ inl e ↦ ap (λ v. v.producer) e | inr j ↦ absurd j ]))
    (λ _. ([], sym (append-nil s.accepted), λ m i. absurd i))

pub released_by : (s : Reader) (m : Message) → (ms : List Message) × ((takes s m).accepted ≡ s.accepted ++ ms) × ((n : Message) → In n ms → n.producer ≡ m.producer)
released_by s m = kind_released s m.producer m.clock m.value m.kind

-- a reader has nothing of a producer that isn't in its text
pub unheard : (d : ℕ) (t : List Message) → ((m : Message) → In m t → m.producer ≡ d → ⊥) → (read t).rest d ≡ record { next = 0; chain = [] }
unheard d [] f = refl
unheard d (m ∷ t) f = other_rest (read t) m d (λ e. f m (inl refl) (sym e)) ∙ unheard d t (λ n i. f n (inr i))
