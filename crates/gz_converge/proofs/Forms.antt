-- What specifications of their form hold: names that are short, and numbers that are small.
use Rattle.std.proofs.Common.{◌≡◌, ℕ, ◌≤◌, ◌&&◌, List, length, Bool, true, false, nat_le, refl, arith}
use Rattle.std.proofs.lemmas.Grind.{common_steps}
use Rattle.std.specs.List.{list_all}
use Rattle.gz_fields.specs.Names.{is_id, is_id_byte, is_journal_name, is_segment, segments}
use Rattle.gz_fields.specs.Form.{is_between}
use Rattle.gz_spec.specs.Limits.{max_limit}

pub left : (a b : Bool) → (a && b) ≡ true → a ≡ true
left true b is = refl
left false b is = absurd (cc)

pub right : (a b : Bool) → (a && b) ≡ true → b ≡ true
right true b is = is
right false b is = absurd (cc)

at_most : (n m : ℕ) → nat_le n m ≡ true → n ≤ m
at_most n m is = grind (arith, common_steps)

pub short_id : (id : List ℕ) → is_id id ≡ true → length id ≤ 255
unfolding is_id
short_id id is =
    let le = at_most (length id) 32 (right (nat_le 1 (length id)) (nat_le (length id) 32) (left (nat_le 1 (length id) && nat_le (length id) 32) (list_all is_id_byte id) is)) in
    omega (arith, le)

pub short_name : (name : List ℕ) → is_journal_name name ≡ true → length name ≤ 255
unfolding is_journal_name
short_name name is = at_most (length name) 255 (left (nat_le (length name) 255) (list_all is_segment (segments name)) is)

pub few_replicas : (n : ℕ) → is_between 1 5 n ≡ true → n ≤ 5
few_replicas n is = at_most n 5 (right (nat_le 1 n) (nat_le n 5) is)

pub few_standbys : (n : ℕ) → is_between 0 4 n ≡ true → n ≤ 4
few_standbys n is = at_most n 4 (right (nat_le 0 n) (nat_le n 4) is)

pub limit_within : (n : ℕ) → is_between 0 max_limit n ≡ true → n ≤ 1024
limit_within n is = at_most n 1024 (right (nat_le 0 n) (nat_le n 1024) is)
