-- What is kept of a producer is what its history says.
use Rattle.std.proofs.Common.{◌≡◌, ℕ, ◌≤◌, List, [], ◌∷◌, ◌++◌, map, filter, refl, ap, sym, ◌∙◌, Bool, true, false, cond, Option, Some, None, arith, subst, ◌||◌, ◌&&◌, nat_lt}
use Rattle.std.specs.Prelude.{⊤}
use Rattle.std.specs.List.{list_any}
use Rattle.std.specs.Str.{bytes_eq}
use Rattle.std.proofs.lemmas.Grind.{common_steps}
use Rattle.std.proofs.lemmas.List.{append-nil, map-append}
use Rattle.std.proofs.lemmas.List.Elements.{filter-append}
use Rattle.std.proofs.lemmas.List.Folds.{list_any-append}
use Rattle.gz_frame.specs.Messages.{Message, is_end}
use Rattle.gz_frame.specs.Release.{is_above, greater_of, greatest_from, greatest, since_end, ascending, chain, released, of_producer}
use Rattle.gz_frame.specs.Text.{Placed}
use Rattle.gz_sequencer.specs.Committed.{released_in, committed_after}
use Rattle.gz_sequencer.specs.Parts.{Part, Parts, nothing, part_of, ended, does_wait, with_waiting, continued, part_after, part_releases, parts_after, releases, releases_of_all}
use Rattle.gz_sequencer.proofs.PartLookups.{part_of_after}

-- all messages begin at or after an offset
abbrev pub AllFrom : ℕ → List Placed → Type 0
AllFrom from [] = ⊤
AllFrom from (p ∷ ps) = (from ≤ p.begin) × AllFrom from ps

-- the clock of the last one that rises
abbrev top_from : Option ℕ → List Message → Option ℕ
top_from top [] = top
top_from top (m ∷ ms) = top_from (cond (is_above top m.clock) (Some m.clock) top) ms

-- what waits, in a history
abbrev waiting : List Message → List Message
waiting h = filter (λ m. is_above (greatest h) m.clock) (since_end h)

greatest_from_more : (h : List Message) (g : Option ℕ) (m : Message) → greatest_from g (h ++ m ∷ []) ≡ cond (is_end m) (greater_of (greatest_from g h) m.clock) (greatest_from g h)
greatest_from_more [] g m = refl
greatest_from_more (x ∷ h) g m = greatest_from_more h (cond (is_end x) (greater_of g x.clock) g) m

ascending_step : (b : Bool) (x : Message) (top : Option ℕ) (xs : List Message) (m : Message)
    → ((t : Option ℕ) → ascending t (xs ++ m ∷ []) ≡ ascending t xs ++ cond (is_above (top_from t xs) m.clock) (m ∷ []) [])
    → cond b (x ∷ ascending (Some x.clock) (xs ++ m ∷ [])) (ascending top (xs ++ m ∷ [])) ≡ cond b (x ∷ ascending (Some x.clock) xs) (ascending top xs) ++ cond (is_above (top_from (cond b (Some x.clock) top) xs) m.clock) (m ∷ []) []
ascending_step true x top xs m ih = ap (λ (ms : List Message). x ∷ ms) (ih (Some x.clock))
ascending_step false x top xs m ih = ih top

ascending_more : (xs : List Message) (top : Option ℕ) (m : Message) → ascending top (xs ++ m ∷ []) ≡ ascending top xs ++ cond (is_above (top_from top xs) m.clock) (m ∷ []) []
ascending_more [] top m = refl
ascending_more (x ∷ xs) top m = ascending_step (is_above top x.clock) x top xs m (λ t. ascending_more xs t m)

top_from_more : (xs : List Message) (top : Option ℕ) (m : Message) → top_from top (xs ++ m ∷ []) ≡ cond (is_above (top_from top xs) m.clock) (Some m.clock) (top_from top xs)
top_from_more [] top m = refl
top_from_more (x ∷ xs) top m = top_from_more xs (cond (is_above top x.clock) (Some x.clock) top) m

or_false : (b : Bool) → (b || false) ≡ b
or_false true = refl
or_false false = refl

or_true : (b : Bool) → (b || true) ≡ true
or_true true = refl
or_true false = refl

any_ended : (xs : List Message) (m : Message) → is_end m ≡ true → list_any is_end (xs ++ m ∷ []) ≡ true
any_ended [] m end = rw end refl
any_ended (x ∷ xs) m end = rw (any_ended xs m end) (or_true (is_end x))

-- nothing is since the end of a history that an end closes
since_end_ended : (xs : List Message) (m : Message) → is_end m ≡ true → since_end (xs ++ m ∷ []) ≡ []
since_end_ended [] m end = rw end refl
since_end_ended (x ∷ xs) m end = rw (any_ended xs m end, or_true (is_end x)) (since_end_ended xs m end)

since_case : (b : Bool) (x : Message) (h s : List Message) (m : Message) → cond b (s ++ m ∷ []) (x ∷ h ++ m ∷ []) ≡ cond b s (x ∷ h) ++ m ∷ []
since_case true x h s m = refl
since_case false x h s m = refl

-- one more message that is no end is since the end
since_end_more : (xs : List Message) (m : Message) → is_end m ≡ false → since_end (xs ++ m ∷ []) ≡ since_end xs ++ m ∷ []
since_end_more [] m none = rw none refl
since_end_more (x ∷ xs) m none =
    let same : list_any is_end (xs ++ m ∷ []) ≡ list_any is_end xs = list_any-append is_end xs (m ∷ []) ∙ rw none (or_false (list_any is_end xs)) in
    rw (same, since_end_more xs m none) (since_case (is_end x || list_any is_end xs) x xs (since_end xs) m)

-- what is kept of a producer is what its history says
pub record Keeps (h : List Message) (part : Part) : Type 0 where
  pub ack : part.ack ≡ greatest h
  pub last : part.last ≡ top_from None (waiting h)
  pub pending : part.pending ≡ chain h

pub keeps_nothing : Keeps [] nothing
keeps_nothing = record { ack = refl; last = refl; pending = refl }

keeps_end : (h : List Message) (m : Message) (part : Part) → is_end m ≡ true → Keeps h part → Keeps (h ++ m ∷ []) (ended part m.clock)
keeps_end h m part end k = record {
  ack = ap (λ (g : Option ℕ). greater_of g m.clock) k.ack ∙ sym (greatest_from_more h None m ∙ rw end refl);
  last = rw (since_end_ended h m end) refl;
  pending = rw (since_end_ended h m end) refl;
}

waiting_more : (h : List Message) (m : Message) → is_end m ≡ false → waiting (h ++ m ∷ []) ≡ waiting h ++ cond (is_above (greatest h) m.clock) (m ∷ []) []
waiting_more h m none =
    let top : greatest (h ++ m ∷ []) ≡ greatest h = greatest_from_more h None m ∙ rw none refl in
    rw (top, since_end_more h m none) (filter-append (λ x. is_above (greatest h) x.clock) (since_end h) (m ∷ []))

-- a message that goes on with what waits, by whether it is above what was acknowledged and above what waits
keeps_more : (a b : Bool) (h : List Message) (p : Placed) (part : Part) → is_above (greatest h) p.message.clock ≡ a → is_above (top_from None (waiting h)) p.message.clock ≡ b
    → greatest (h ++ p.message ∷ []) ≡ greatest h
    → waiting (h ++ p.message ∷ []) ≡ waiting h ++ cond a (p.message ∷ []) []
    → Keeps h part → Keeps (h ++ p.message ∷ []) (cond (a && b) (with_waiting part p) part)
keeps_more true true h p part above rises top wait k = record {
  ack = k.ack ∙ sym top;
  last = sym (ap (λ (ms : List Message). top_from None ms) wait ∙ top_from_more (waiting h) None p.message ∙ rw rises refl);
  pending = ap (λ (ms : List Message). ms ++ p.message ∷ []) k.pending ∙ sym (ap (λ (ms : List Message). ascending None ms) wait ∙ ascending_more (waiting h) None p.message ∙ rw rises refl);
}
keeps_more true false h p part above rises top wait k = record {
  ack = k.ack ∙ sym top;
  last = k.last ∙ sym (ap (λ (ms : List Message). top_from None ms) wait ∙ top_from_more (waiting h) None p.message ∙ rw rises refl);
  pending = k.pending ∙ sym (ap (λ (ms : List Message). ascending None ms) wait ∙ ascending_more (waiting h) None p.message ∙ rw rises (append-nil (chain h)));
}
keeps_more false b h p part above rises top wait k = record {
  ack = k.ack ∙ sym top;
  last = k.last ∙ sym (ap (λ (ms : List Message). top_from None ms) (wait ∙ append-nil (waiting h)));
  pending = k.pending ∙ sym (ap (λ (ms : List Message). ascending None ms) (wait ∙ append-nil (waiting h)));
}

keeps_continued : (h : List Message) (p : Placed) (part : Part) → is_end p.message ≡ false → Keeps h part → Keeps (h ++ p.message ∷ []) (continued part p)
keeps_continued h p part none k =
    let top : greatest (h ++ p.message ∷ []) ≡ greatest h = greatest_from_more h None p.message ∙ rw none refl in
    let test : does_wait part p.message ≡ (is_above (greatest h) p.message.clock && is_above (top_from None (waiting h)) p.message.clock) = rw (k.ack, k.last) refl in
    let P : Bool → Type 0 = λ b. Keeps (h ++ p.message ∷ []) (cond b (with_waiting part p) part) in
    subst P (sym test)
    (keeps_more (is_above (greatest h) p.message.clock) (is_above (top_from None (waiting h)) p.message.clock) h p part refl refl top (waiting_more h p.message none) k)

-- one more message of the producer
pub keeps_after : (h : List Message) (p : Placed) (part : Part) → Keeps h part → Keeps (h ++ p.message ∷ []) (part_after part p)
keeps_after h p part k = by_end (is_end p.message) refl
  where
    by_end : (b : Bool) → b ≡ is_end p.message → Keeps (h ++ p.message ∷ []) (cond b (ended part p.message.clock) (continued part p))
    by_end true end = keeps_end h p.message part (sym end) k
    by_end false none = keeps_continued h p part (sym none) k

-- what a message releases
pub keeps_releases : (h : List Message) (m : Message) (part : Part) → Keeps h part → part_releases part m ≡ released h m
keeps_releases h m part k = rw (k.ack, k.pending) refl

-- what is kept of each producer is what its history says
abbrev pub KeepsAll : List Message → Parts → Type 0
KeepsAll h parts = (q : List ℕ) → Keeps (of_producer q h) (part_of q parts)

not_below : (from begin : ℕ) → from ≤ begin → nat_lt begin from ≡ false
not_below from begin h = grind (arith, common_steps)

keeps_case : (b : Bool) (h : List Message) (p : Placed) (part : Part) → Keeps h part → Keeps (h ++ cond b (p.message ∷ []) []) (cond b (part_after part p) part)
keeps_case true h p part k = keeps_after h p part k
keeps_case false h p part k = let P : List Message → Type 0 = λ g. Keeps g part in subst P (sym (append-nil h)) k

of_producer_more : (q : List ℕ) (h : List Message) (m : Message) → of_producer q (h ++ m ∷ []) ≡ of_producer q h ++ cond (bytes_eq m.producer q) (m ∷ []) []
of_producer_more q h m = filter-append (λ x. bytes_eq x.producer q) h (m ∷ [])

keeps_all_after : (h : List Message) (until : ℕ) (parts : Parts) (p : Placed) → until ≤ p.begin → KeepsAll h parts → KeepsAll (h ++ p.message ∷ []) (parts_after until parts p)
keeps_all_after h until parts p from k = λ q.
    rw (of_producer_more q h p.message, part_of_after q until parts p, not_below until p.begin from)
    (keeps_case (bytes_eq p.message.producer q) (of_producer q h) p (part_of q parts) (k q))

-- the messages that one line releases
pub released_of_line : (end : ℕ) (ms : List Message) → released_in (map (λ m. record { message = m; end = end }) ms) ≡ ms
released_of_line end [] = refl
released_of_line end (m ∷ ms) = ap (λ (rest : List Message). m ∷ rest) (released_of_line end ms)

-- what is kept of each producer releases what the histories say
pub releases_are_committed : (ps : List Placed) (h : List Message) (until : ℕ) (parts : Parts) → AllFrom until ps → KeepsAll h parts → releases_of_all until parts ps ≡ released_in (committed_after h ps)
releases_are_committed [] h until parts from k = refl
releases_are_committed (p ∷ ps) h until parts from k =
    let now : List Message = released (of_producer p.message.producer h) p.message in
    let first : releases until parts p ≡ now = rw (not_below until p.begin from.0) (keeps_releases (of_producer p.message.producer h) p.message (part_of p.message.producer parts) (k p.message.producer)) in
    ap (λ (ms : List Message). ms ++ releases_of_all until (parts_after until parts p) ps) first
    ∙ (ap (λ (ms : List Message). now ++ ms) (releases_are_committed ps (h ++ p.message ∷ []) until (parts_after until parts p) from.1 (keeps_all_after h until parts p from.0 k))
    ∙ sym (map-append (λ r. r.message) (map (λ m. record { message = m; end = p.end }) now) (committed_after (h ++ p.message ∷ []) ps)
    ∙ ap (λ (ms : List Message). ms ++ released_in (committed_after (h ++ p.message ∷ []) ps)) (released_of_line p.end now)))
