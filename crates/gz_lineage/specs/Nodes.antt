-- A broker's part in one journal, and what brokers, the key space and the store say to one another. Nodes have
-- numbers; number 0 is the key space and the store. Ends and heads count marks.
use Rattle.std.specs.Prelude.{ℕ, List, Option}
use Rattle.gz_journal.specs.declared.request.Request.{Request}
use Rattle.gz_lineage.specs.Marks.{Mark}

-- The members of one epoch: the primary, and the others in route order. The epoch is the key space's revision at which
-- the route was written, and `opened` the epoch that the journal's sync key had then, 0 where it had none.
pub record Route : Type 0 where
  pub epoch : ℕ
  pub lead : ℕ
  pub others : List ℕ
  pub opened : ℕ

-- what a spool holds: marks, and how many of them are known to be acknowledged
pub record Image : Type 0 where
  pub entries : List Mark
  pub head : ℕ

-- what a member says when it promises: the epoch that it adopted last, and its spool
pub record Report : Type 0 where
  pub adopted : ℕ
  pub image : Image

-- What a broker does as primary. It waits for promises and for what the store has; then for the others to adopt its
-- image; then for the key space to write its epoch to the sync key; then it is open. While it is open it knows how far
-- each other member holds, and the ends for which answers wait.
pub data Part : Type 0 where
  Closed : Part
  Opening : (route : Route) (reports : List (ℕ × Option Report)) (names : Option (List Mark)) → Part
  Adopting : (route : Route) (reached : List (ℕ × Option ℕ)) → Part
  Syncing : (route : Route) → Part
  Open : (route : Route) (held : List (ℕ × ℕ)) (queue : List ℕ) → Part

-- A broker: the greatest epoch that it promised, the epoch whose image it adopted last, its spool with its head, and
-- its part as primary.
pub record Node : Type 0 where
  pub promised : ℕ
  pub adopted : ℕ
  pub spool : List Mark
  pub head : ℕ
  pub part : Part

pub data Message : Type 0 where
  -- a route was written
  Changed : (route : Route) → Message
  -- promise to take nothing of an earlier epoch any more, and the promise with a report
  Promise : (epoch : ℕ) → Message
  Promised : (epoch : ℕ) (report : Report) → Message
  -- adopt this image, and that it was adopted
  Adopt : (epoch : ℕ) (image : Image) → Message
  Adopted : (epoch reach : ℕ) → Message
  Refuse : (epoch code : ℕ) → Message
  -- write the epoch to the sync key, if its route is still the present one
  Txn : (epoch : ℕ) → Message
  TxnOk : (epoch : ℕ) → Message
  TxnNo : (epoch : ℕ) → Message
  Append : (request : Request) → Message
  -- an entry for that place, and how much a member holds
  Replicate : (epoch offset : ℕ) (entry : Mark) (head : ℕ) → Message
  Held : (epoch reach : ℕ) → Message
  Head : (epoch head : ℕ) → Message
  -- what clients are told: the entry that ends there is acknowledged; or the primary closed, having promised more
  Done : (epoch reach : ℕ) → Message
  Shut : (promised : ℕ) → Message
  -- to the store: say what it has, and keep more
  Ask : (epoch : ℕ) → Message
  Names : (epoch : ℕ) (text : List Mark) → Message
  Put : (text : List Mark) → Message

pub record Letter : Type 0 where
  pub from : ℕ
  pub to : ℕ
  pub body : Message

-- a broker behind a rule, and what it sends
pub record Outcome : Type 0 where
  pub node : Node
  pub sends : List Letter
