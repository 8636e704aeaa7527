-- What specifications of their form hold: names that are short, and lists one after another.
use Rattle.std.proofs.Common.{◌≡◌, ℕ, ◌≤◌, ◌&&◌, List, length, Bool, true, false, refl, nat_le, arith}
use Rattle.std.proofs.lemmas.Grind.{common_steps}
use Rattle.std.specs.List.{list_all}
use Rattle.gz_fields.specs.Names.{is_id, is_id_byte, is_journal_name, is_segment, segments}
use Rattle.gz_spec.specs.Valid.{is_lone_member}
use Rattle.gz_spec.specs.Records.{MemberSpec}

pub left : (a b : Bool) → (a && b) ≡ true → a ≡ true
left true b is = refl
left false b is = absurd (cc)

pub right : (a b : Bool) → (a && b) ≡ true → b ≡ true
right true b is = is
right false b is = absurd (cc)

at_most : (n m : ℕ) → nat_le n m ≡ true → n ≤ m
at_most n m is = grind (arith, common_steps)

pub short_id : (id : List ℕ) → is_id id ≡ true → length id ≤ 255
unfolding is_id
short_id id is =
    let le = at_most (length id) 32 (right (nat_le 1 (length id)) (nat_le (length id) 32) (left (nat_le 1 (length id) && nat_le (length id) 32) (list_all is_id_byte id) is)) in
    omega (arith, le)

pub short_name : (name : List ℕ) → is_journal_name name ≡ true → length name ≤ 255
unfolding is_journal_name
short_name name is = at_most (length name) 255 (left (nat_le (length name) 255) (list_all is_segment (segments name)) is)

pub short_member : (m : MemberSpec) → is_lone_member m ≡ true → length m.id ≤ 255
short_member m is = short_id m.id (left (is_id m.id) _ is)
