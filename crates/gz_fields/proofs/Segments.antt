-- A path, byte by byte.
use Rattle.std.proofs.Common.{◌≡◌, ℕ, suc, ◌==◌, ◌&&◌, List, [], ◌∷◌, length, refl, cond, Bool, true, false, nat_le, arith}
use Rattle.std.proofs.lemmas.Grind.{common_steps}
use Rattle.std.specs.List.{list_all}
use Rattle.gz_fields.specs.Names.{is_segment, is_segment_byte, segments, onto}

-- the bytes go on with a path, inside a segment or where one begins
abbrev pub goes_on : Bool → List ℕ → Bool
goes_on inside [] = inside
goes_on inside (b ∷ bs) = cond (b == 47) (inside && goes_on false bs) (is_segment_byte b && goes_on true bs)

-- inside a segment, the first part may be empty
abbrev pub rest_holds : List (List ℕ) → Bool
rest_holds [] = true
rest_holds (part ∷ parts) = list_all is_segment_byte part && list_all is_segment parts

and_assoc : (p q r : Bool) → ((p && q) && r) ≡ (p && (q && r))
and_assoc true q r = refl
and_assoc false q r = refl

and_true : (p : Bool) → ((p && true) && true) ≡ (p && true)
and_true true = refl
and_true false = refl

some_bytes : (n : ℕ) → nat_le 1 (suc n) ≡ true
some_bytes n = grind (arith, common_steps)

onto_all : (b : ℕ) (parts : List (List ℕ)) → list_all is_segment (onto b parts) ≡ (is_segment_byte b && rest_holds parts)
onto_all b [] = and_true (is_segment_byte b)
onto_all b (part ∷ parts) = rw (some_bytes (length part)) (and_assoc (is_segment_byte b) (list_all is_segment_byte part) (list_all is_segment parts))

onto_rest : (b : ℕ) (parts : List (List ℕ)) → rest_holds (onto b parts) ≡ (is_segment_byte b && rest_holds parts)
onto_rest b [] = and_true (is_segment_byte b)
onto_rest b (part ∷ parts) = and_assoc (is_segment_byte b) (list_all is_segment_byte part) (list_all is_segment parts)

begins_step : (slash : Bool) (b : ℕ) (bs : List ℕ) → goes_on true bs ≡ rest_holds (segments bs)
    → cond slash false (is_segment_byte b && goes_on true bs) ≡ list_all is_segment (cond slash ([] ∷ segments bs) (onto b (segments bs)))
begins_step true b bs inside = refl
begins_step false b bs inside = rw (inside, onto_all b (segments bs)) refl

inside_step : (slash : Bool) (b : ℕ) (bs : List ℕ) → goes_on false bs ≡ list_all is_segment (segments bs) → goes_on true bs ≡ rest_holds (segments bs)
    → cond slash (goes_on false bs) (is_segment_byte b && goes_on true bs) ≡ rest_holds (cond slash ([] ∷ segments bs) (onto b (segments bs)))
inside_step true b bs begins inside = begins
inside_step false b bs begins inside = rw (inside, onto_rest b (segments bs)) refl

-- a text is a path where it goes on with one from its first byte
mutual
  pub goes_on_begins : (text : List ℕ) → goes_on false text ≡ list_all is_segment (segments text)
  goes_on_begins [] = refl
  goes_on_begins (b ∷ bs) = begins_step (b == 47) b bs (goes_on_inside bs)

  pub goes_on_inside : (text : List ℕ) → goes_on true text ≡ rest_holds (segments text)
  goes_on_inside [] = refl
  goes_on_inside (b ∷ bs) = inside_step (b == 47) b bs (goes_on_begins bs) (goes_on_inside bs)
