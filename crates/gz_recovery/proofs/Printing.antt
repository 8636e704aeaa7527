-- The object of an operation.
use Rattle.std.proofs.Common.{◌≡◌, ℕ, ◌≤◌, refl, arith, false}
use Rattle.std.specs.Prelude.{codes}
use Rattle.serde_json.specs.Data.{no_members, member, put, string, depth}
use Rattle.serde_json.specs.Written.{has_float}
use Rattle.serde_json.specs.Read.{max_depth}
use Rattle.gz_recovery.specs.Operations.{Op, op_data, author_text, number_data, kind_put, members_of}
use Rattle.gz_recovery.specs.declared.op.OpKind.{OpKind}
use Rattle.gz_recovery.specs.declared.op.OpKind.TheVariants.{Create, Link, Unlink, Write, Property, Handoff}

-- the members of an operation, put in one after another, are in the order of their names
pub object_of_kind : (author seq : ℕ) (kind : OpKind) →
    put (codes "seq") (number_data seq) (kind_put kind (put (codes "author") (string (author_text author)) no_members))
    ≡ member (codes "author") (string (author_text author)) (members_of kind (member (codes "seq") (number_data seq) no_members))
object_of_kind author seq (Create path) = refl
object_of_kind author seq (Link fnode path) = refl
object_of_kind author seq (Unlink path) = refl
object_of_kind author seq (Write fnode offset text) = refl
object_of_kind author seq (Property path text) = refl
object_of_kind author seq Handoff = refl

pub no_float : (op : Op) → has_float (op_data op) ≡ false
no_float op = by op.kind
  where
    by : (kind : OpKind) → has_float (op_data (record op { kind = kind })) ≡ false
    by (Create path) = refl
    by (Link fnode path) = refl
    by (Unlink path) = refl
    by (Write fnode offset text) = refl
    by (Property path text) = refl
    by Handoff = refl

pub shallow : (op : Op) → depth (op_data op) ≤ max_depth
shallow op = by op.kind
  where
    by : (kind : OpKind) → depth (op_data (record op { kind = kind })) ≤ max_depth
    by (Create path) = omega arith
    by (Link fnode path) = omega arith
    by (Unlink path) = omega arith
    by (Write fnode offset text) = omega arith
    by (Property path text) = omega arith
    by Handoff = omega arith
