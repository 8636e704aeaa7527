-- What a member is comes before what there is to do, in the order of the names.
use Rattle.std.proofs.Common.{◌≡◌, refl, codes}
use Rattle.serde_json.specs.Data.{Data, no_members, member, put}
use Rattle.serde_json.proofs.OnLiterals.{serde_json_on_literals}

pub broker_first : (d e : Data)
    → put (codes "do") e (member (codes "broker") d no_members) ≡ member (codes "broker") d (member (codes "do") e no_members)
unfolding serde_json_on_literals
broker_first d e = refl

pub consumer_first : (d e : Data)
    → put (codes "do") e (member (codes "consumer") d no_members) ≡ member (codes "consumer") d (member (codes "do") e no_members)
unfolding serde_json_on_literals
consumer_first d e = refl
