-- Numbers in decimal, and states as JSON.
use Rattle.std.proofs.Common.{◌≡◌, ℕ, ◌^◌, ◌<◌, ◌≤◌, List, length, refl, Bool, true, false, ◌||◌, Ordering, Less, Equal, Greater, nat_cmp, arith}
use Rattle.std.specs.Fmt.{decimal}
use Rattle.std.specs.Cmp.Lexicographic.{slice_cmp}
use Rattle.std.specs.Ordering.{match_ordering}
use Rattle.std.proofs.lemmas.Fmt.{length-decimal-le}
use Rattle.serde_json.specs.Data.{Data, Members, no_members, member, put}
use Rattle.serde_json.specs.Written.{has_float, members_have_float}
use Rattle.gz_app.specs.States.{kept_data}
use Rattle.gz_app.specs.declared.state.Kept.{Kept}
use Rattle.gz_app.specs.declared.state.Kept.TheVariants.{Number, Text}

-- a number of 64 bits has at most twenty digits
pub short_decimal : (n : ℕ) → n < 2 ^ 64 → length (decimal n) ≤ 4096
short_decimal n fits =
    let low : n < 10 ^ 20 = omega arith in
    let digits : length (decimal n) ≤ 20 = length-decimal-le 20 n (omega arith) low fits in
    omega arith

none_first : (b c : Bool) → (b || c) ≡ false → b ≡ false
none_first true c none = none
none_first false c none = refl

none_behind : (b c : Bool) → (b || c) ≡ false → c ≡ false
none_behind true c none = cc
none_behind false c none = none

put_ordered : (o : Ordering) (k l : List ℕ) (d e : Data) (ms more : Members) → has_float d ≡ false → members_have_float (member l e ms) ≡ false → members_have_float more ≡ false
    → members_have_float (match_ordering o (member k d (member l e ms)) (member l d ms) (member l e more)) ≡ false
put_ordered Less k l d e ms more whole none ih = rw whole none
put_ordered Equal k l d e ms more whole none ih = rw whole (none_behind (has_float e) _ none)
put_ordered Greater k l d e ms more whole none ih = rw (none_first (has_float e) _ none) ih

put_whole : (k : List ℕ) (d : Data) (ms : Members) → has_float d ≡ false → members_have_float ms ≡ false → members_have_float (put k d ms) ≡ false
put_whole k d no_members whole none = rw whole refl
put_whole k d (member l e ms) whole none =
    put_ordered (slice_cmp nat_cmp k l) k l d e ms _ whole none (put_whole k d ms whole (none_behind (has_float e) _ none))

kept_whole : (kept : Kept) → has_float (kept_data kept) ≡ false
kept_whole (Number n) = refl
kept_whole (Text t) = refl

-- what is kept brings no float
pub no_float : (k : List ℕ) (kept : Kept) (ms : Members) → members_have_float ms ≡ false → members_have_float (put k (kept_data kept) ms) ≡ false
no_float k kept ms none = put_whole k (kept_data kept) ms (kept_whole kept) none
