-- Message by message, a reader has of each producer what the release rule makes of the producer's history.
use Rattle.std.proofs.Common.{◌≡◌, ℕ, ◌+◌, ◌≤◌, List, [], ◌∷◌, ◌++◌, map, filter, refl, ap, sym, ◌∙◌, subst, append_assoc, Bool, true, false, cond, Option, Some, None, arith, leb, ◌&&◌, ◌||◌}
use Rattle.std.specs.Str.{bytes_eq}
use Rattle.std.proofs.lemmas.Slice.Eq.{bytes_eq-Decides}
use Rattle.std.proofs.lemmas.Grind.{common_steps}
use Rattle.std.proofs.lemmas.List.{append-nil, map-append}
use Rattle.std.proofs.lemmas.List.Elements.{filter-append}
use Rattle.std.proofs.lemmas.Bool.{cond_both, leb-true, leb-false}
use Rattle.gz_frame.specs.Messages as frame
use Rattle.gz_frame.specs.Release.{is_above, greater_of, released, of_producer}
use Rattle.gz_frame.specs.Text.{Placed}
use Rattle.gz_sequencer.specs.Committed.{messages_alone, released_in, committed_after}
use Rattle.gz_sequencer.specs.Parts.{Part, nothing, does_wait, ended, continued, with_waiting, part_after}
use Rattle.gz_sequencer.proofs.PartLookups.{same_bytes}
use Rattle.gz_sequencer.proofs.PartHistories.{Keeps, keeps_nothing, keeps_after, keeps_releases, released_of_line}
use Rattle.gz_reader.specs.Reader.{Line, Kind, Continue, Acknowledge, Outside, Message, Rest, Reader, above, line_message, up_to, raise, take_line, take_ack, take_kind, takes, read, committed}
use Rattle.gz_reader.specs.Coding.{Coding, TellsProducers, kind_of, coded, all_coded, text_after}
use Rattle.gz_reader.proofs.Updates.{upd_here}
use Rattle.gz_reader.proofs.Appends.{above_push, other_rest}

-- the least clock above the greatest one
abbrev pub next_of : Option ℕ → ℕ
next_of None = 0
next_of (Some clock) = clock + 1

above_is : (top : Option ℕ) (n : ℕ) → is_above top n ≡ leb (next_of top) n
above_is None n = grind (arith, common_steps)
above_is (Some a) n = grind (arith, common_steps)

greater_is : (top : Option ℕ) (n : ℕ) → next_of (greater_of top n) ≡ raise (next_of top) n
greater_is None n = grind (arith, common_steps)
greater_is (Some a) n = grind (arith, common_steps)

-- above two tops is above the higher one
both_above : (a b n : ℕ) → a ≤ b → (leb a n && leb b n) ≡ leb b n
both_above a b n l = cond_both (leb b n) true false (λ r. (leb a n && leb b n) ≡ r → (leb a n && leb b n) ≡ leb b n) (λ e z. z ∙ sym e) (λ e z. z ∙ sym e)
    (cond_both (leb b n) _ _ (λ r. (leb a n && leb b n) ≡ r)
    (λ e. let h = leb-true b n e in grind (arith, common_steps))
    (λ e. let h = leb-false b n e in grind (arith, common_steps)))

module _ (c : Coding) where
  abbrev pub line_of : frame.Message → Line
  line_of m = record { clock = m.clock; value = c.value m.key m.value }

  abbrev pub lines_of : List frame.Message → List Line
  lines_of [] = []
  lines_of (m ∷ ms) = line_of m ∷ lines_of ms

  -- they are lines of the producer
  abbrev pub Own : ℕ → List frame.Message → Type 0
  Own p [] = Unit {0}
  Own p (m ∷ ms) = (coded c m ≡ line_message p (line_of m)) × Own p ms

  -- the last one's clock is the top of what waits
  abbrev pub Level : Rest → Option ℕ → Type 0
  Level r None = r.chain ≡ []
  Level r (Some clock) = (above r.next r.chain ≡ clock + 1) × (r.next ≤ clock + 1)

  -- the reader has of a producer what a sequencer keeps of it
  pub record Same (p : ℕ) (part : Part) (r : Rest) : Type 0 where
    pub next : r.next ≡ next_of part.ack
    pub chain : r.chain ≡ lines_of part.pending
    pub level : Level r part.last
    pub own : Own p part.pending

  lines_join : (xs ys : List frame.Message) → lines_of (xs ++ ys) ≡ lines_of xs ++ lines_of ys
  lines_join [] ys = refl
  lines_join (x ∷ xs) ys = ap (λ v. line_of x ∷ v) (lines_join xs ys)

  own_join : (p : ℕ) (xs ys : List frame.Message) → Own p xs → Own p ys → Own p (xs ++ ys)
  own_join p [] ys a b = b
  own_join p (x ∷ xs) ys a b = (a.0, own_join p xs ys a.1 b)

  all_join : (xs ys : List frame.Message) → all_coded c (xs ++ ys) ≡ all_coded c xs ++ all_coded c ys
  all_join [] ys = refl
  all_join (x ∷ xs) ys = ap (λ v. coded c x ∷ v) (all_join xs ys)

  -- what waits up to a clock
  up_to_is : (p n : ℕ) (ms : List frame.Message) → Own p ms → up_to p n (lines_of ms) ≡ all_coded c (filter (λ w. leb w.clock n) ms)
  up_to_is p n [] o = refl
  up_to_is p n (m ∷ ms) o = cond_both (leb m.clock n) _ _ (λ v. v ≡ all_coded c (cond (leb m.clock n) (m ∷ filter (λ w. leb w.clock n) ms) (filter (λ w. leb w.clock n) ms)))
      (λ e. ap (λ v. line_message p (line_of m) ∷ v) (up_to_is p n ms o.1) ∙ ap (λ v. v ∷ all_coded c (filter (λ w. leb w.clock n) ms)) (sym o.0)
      ∙ ap (λ b. all_coded c (cond b (m ∷ filter (λ w. leb w.clock n) ms) (filter (λ w. leb w.clock n) ms))) (sym e))
      (λ e. up_to_is p n ms o.1 ∙ ap (λ b. all_coded c (cond b (m ∷ filter (λ w. leb w.clock n) ms) (filter (λ w. leb w.clock n) ms))) (sym e))

  -- a message waits where the reader lets it wait
  waits_above : (top last : Option ℕ) (r : Rest) (n : ℕ) → r.next ≡ next_of top → Level r last → (is_above top n && is_above last n) ≡ leb (above r.next r.chain) n
  waits_above top None r n e l = rw (above_is top n, l, e) (and_true (leb (next_of top) n))
    where
      and_true : (b : Bool) → (b && true) ≡ b
      and_true true = refl
      and_true false = refl
  waits_above top (Some k) r n e l = rw (above_is top n, above_is (Some k) n, l.0, sym e) (both_above r.next (k + 1) n l.1)

  below_top : (last : Option ℕ) (r : Rest) → Level r last → r.next ≤ above r.next r.chain
  below_top None r l = rw l (omega arith)
  below_top (Some k) r l = let e = l.0 in let m = l.1 in omega arith

  -- a CONTINUE message of the producer
  line_same : (p : ℕ) (part : Part) (r : Rest) (x : Placed) → coded c x.message ≡ line_message p (line_of x.message) → Same p part r → Same p (continued part x) (take_line r (line_of x.message))
  line_same p part r x is s =
      let n : ℕ = x.message.clock in
      let test : does_wait part x.message ≡ leb (above r.next r.chain) n = waits_above part.ack part.last r n s.next s.level in
      let P : Bool → Type 0 = λ b. Same p (cond b (with_waiting part x) part) (take_line r (line_of x.message)) in
      subst P (sym test) (cond_both (leb (above r.next r.chain) n) (record r { chain = r.chain ++ line_of x.message ∷ [] }) r (λ v. Same p (cond (leb (above r.next r.chain) n) (with_waiting part x) part) v)
      (λ e. subst (λ b. Same p (cond b (with_waiting part x) part) (record r { chain = r.chain ++ line_of x.message ∷ [] })) (sym e) (record {
        next = s.next;
        chain = ap (λ v. v ++ line_of x.message ∷ []) s.chain ∙ sym (lines_join part.pending (x.message ∷ []));
        level = (above_push r.next r.chain (line_of x.message), let h = leb-true (above r.next r.chain) n e in let k = below_top part.last r s.level in omega arith);
        own = own_join p part.pending (x.message ∷ []) s.own (is, tt);
      }))
      (λ e. subst (λ b. Same p (cond b (with_waiting part x) part) r) (sym e) s))

  ack_same : (p n : ℕ) (part : Part) (r : Rest) → Same p part r → Same p (ended part n) (take_ack r n)
  ack_same p n part r s = record { next = ap (λ v. raise v n) s.next ∙ sym (greater_is part.ack n); chain = refl; level = refl; own = tt }

  -- what a message makes of its producer
  abbrev after_kind : Rest → frame.Message → Kind → Rest
  after_kind r m Continue = take_line r (line_of m)
  after_kind r m _ = take_ack r m.clock

  here : (s : Reader) (p : ℕ) (m : frame.Message) (k : Kind) → (take_kind s p m.clock (c.value m.key m.value) k).rest p ≡ after_kind (s.rest p) m k
  here s p m Continue = upd_here s.rest p (take_line (s.rest p) (line_of m))
  here s p m Acknowledge = upd_here s.rest p (take_ack (s.rest p) m.clock)
  here s p m Outside = upd_here s.rest p (take_ack (s.rest p) m.clock)

  coded_as : (p : ℕ) (m : frame.Message) (k : Kind) → c.producer m.producer ≡ p → kind_of m ≡ k → coded c m ≡ record { producer = p; clock = m.clock; kind = k; value = c.value m.key m.value }
  coded_as p m k e f = ap (λ v. record { producer = v; clock = m.clock; kind = kind_of m; value = c.value m.key m.value }) e ∙ ap (λ v. record { producer = p; clock = m.clock; kind = v; value = c.value m.key m.value }) f

  same_after : (p : ℕ) (part : Part) (r : Rest) (x : Placed) (a o : Bool) → frame.is_ack x.message ≡ a → frame.is_outside x.message ≡ o → c.producer x.message.producer ≡ p → Same p part r →
      Same p (cond (a || o) (ended part x.message.clock) (continued part x)) (after_kind r x.message (cond a Acknowledge (cond o Outside Continue)))
  same_after p part r x true o ea eo e s = ack_same p x.message.clock part r s
  same_after p part r x false true ea eo e s = ack_same p x.message.clock part r s
  same_after p part r x false false ea eo e s = line_same p part r x (coded_as p x.message Continue e (rw (ea, eo) refl)) s

  -- what a message releases
  releases_as : (s : Reader) (p : ℕ) (part : Part) (m : frame.Message) (a o : Bool) → frame.is_ack m ≡ a → frame.is_outside m ≡ o → c.producer m.producer ≡ p → Same p part (s.rest p) →
      (take_kind s p m.clock (c.value m.key m.value) (cond a Acknowledge (cond o Outside Continue))).accepted
      ≡ s.accepted ++ all_coded c (cond a (filter (λ w. leb w.clock m.clock) part.pending) (cond o (cond (is_above part.ack m.clock) (m ∷ []) []) []))
  releases_as s p part m true o ea eo e q = ap (λ v. s.accepted ++ up_to p m.clock v) q.chain ∙ ap (λ v. s.accepted ++ v) (up_to_is p m.clock part.pending q.own)
  releases_as s p part m false false ea eo e q = sym (append-nil s.accepted)
  releases_as s p part m false true ea eo e q =
      let one : coded c m ≡ record { producer = p; clock = m.clock; kind = Outside; value = c.value m.key m.value } = coded_as p m Outside e (rw (ea, eo) refl) in
      let test : is_above part.ack m.clock ≡ leb (s.rest p).next m.clock = above_is part.ack m.clock ∙ ap (λ v. leb v m.clock) (sym q.next) in
      by_test (leb (s.rest p).next m.clock) (is_above part.ack m.clock) test one
    where
      by_test : (b d : Bool) → d ≡ b → coded c m ≡ record { producer = p; clock = m.clock; kind = Outside; value = c.value m.key m.value } →
          cond b (s.accepted ++ record { producer = p; clock = m.clock; kind = Outside; value = c.value m.key m.value } ∷ []) s.accepted ≡ s.accepted ++ all_coded c (cond d (m ∷ []) [])
      by_test true true z one = ap (λ v. s.accepted ++ v ∷ []) (sym one)
      by_test false false z one = sym (append-nil s.accepted)
      by_test true false z one = cc
      by_test false true z one = cc

  -- the reader of a text agrees with a history
  abbrev pub Agrees : List frame.Message → Reader → Type 0
  Agrees h s = (q : List ℕ) → (part : Part) × Keeps (of_producer q h) part × Same (c.producer q) part (s.rest (c.producer q))

  same_message : (s : Reader) (q : List ℕ) (part : Part) (x : Placed) → x.message.producer ≡ q → Same (c.producer q) part (s.rest (c.producer q)) → Same (c.producer q) (part_after part x) ((takes s (coded c x.message)).rest (c.producer q))
  same_message s q part x e w =
      let p : ℕ = c.producer x.message.producer in
      let P : ℕ → Type 0 = λ n. Same n part (s.rest n) in
      let now = same_after p part (s.rest p) x (frame.is_ack x.message) (frame.is_outside x.message) refl refl refl (subst P (ap c.producer (sym e)) w) in
      let Q : ℕ → Type 0 = λ n. Same n (part_after part x) ((takes s (coded c x.message)).rest n) in
      subst Q (ap c.producer e) (subst (λ r. Same p (part_after part x) r) (sym (here s p x.message (kind_of x.message))) now)

  agrees_after : TellsProducers c → (h : List frame.Message) (s : Reader) (x : Placed) → Agrees h s → Agrees (h ++ x.message ∷ []) (takes s (coded c x.message))
  agrees_after apart h s x a q =
      let joined : of_producer q (h ++ x.message ∷ []) ≡ of_producer q h ++ cond (bytes_eq x.message.producer q) (x.message ∷ []) [] = filter-append (λ m. bytes_eq m.producer q) h (x.message ∷ []) in
      let P : List frame.Message → Type 0 = λ g. (part : Part) × Keeps g part × Same (c.producer q) part ((takes s (coded c x.message)).rest (c.producer q)) in
      let was = a q in
      subst P (sym joined) (cond_both (bytes_eq x.message.producer q) (x.message ∷ []) [] (λ ms. P (of_producer q h ++ ms))
      (λ e. (part_after was.0 x, keeps_after (of_producer q h) x was.0 was.1, same_message s q was.0 x (same_bytes x.message.producer q e) was.2))
      (λ e. (
        was.0,
        subst (λ g. Keeps g was.0) (sym (append-nil (of_producer q h))) was.1,
        subst (λ r. Same (c.producer q) was.0 r) (sym (other_rest s (coded c x.message) (c.producer q) (λ z. differ x.message.producer q e (sym (apart q x.message.producer z))))) was.2,
      )))
    where
      differ : (x q : List ℕ) → bytes_eq x q ≡ false → x ≡ q → ⊥
      differ x q e f = let k : bytes_eq q q ≡ false = ap (λ v. bytes_eq v q) (sym f) ∙ e in let t = (bytes_eq-Decides q q).1 refl in cc

  pub told_is : TellsProducers c → (ps : List Placed) (h : List frame.Message) (t : List Message) → Agrees h (read t) →
      committed (text_after c t (messages_alone ps)) ≡ committed t ++ all_coded c (released_in (committed_after h ps))
  told_is apart [] h t a = sym (append-nil (committed t))
  told_is apart (x ∷ ps) h t a =
      let m : frame.Message = x.message in
      let was = a m.producer in
      let now : List frame.Message = released (of_producer m.producer h) m in
      let rest : List frame.Message = released_in (committed_after (h ++ m ∷ []) ps) in
      let first : committed (coded c m ∷ t) ≡ committed t ++ all_coded c now =
      releases_as (read t) (c.producer m.producer) was.0 m (frame.is_ack m) (frame.is_outside m) refl refl refl was.2
      ∙ ap (λ v. committed t ++ all_coded c v) (keeps_releases (of_producer m.producer h) m was.0 was.1) in
      let whole : released_in (committed_after h (x ∷ ps)) ≡ now ++ rest =
      map-append (λ r. r.message) (map (λ y. record { message = y; end = x.end }) now) (committed_after (h ++ m ∷ []) ps) ∙ ap (λ v. v ++ rest) (released_of_line x.end now) in
      told_is apart ps (h ++ m ∷ []) (coded c m ∷ t) (agrees_after apart h (read t) x a)
      ∙ ap (λ v. v ++ all_coded c rest) first ∙ append_assoc (committed t) (all_coded c now) (all_coded c rest)
      ∙ ap (λ v. committed t ++ v) (sym (all_join now rest)) ∙ ap (λ v. committed t ++ all_coded c v) (sym whole)

  pub agrees_nothing : Agrees [] (read [])
  agrees_nothing q = (nothing, keeps_nothing, record { next = refl; chain = refl; level = refl; own = tt })
