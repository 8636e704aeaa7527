-- What is known of a node and of a letter beside the node's state: the lists of epochs. Bytes don't tell a place from the
-- same place with a reset before it, so the rules of an entry, of a held end and of the choice are carried only where
-- spools are prefixes of one list, and as long as the image that was adopted in its epoch. In every run they are
-- (`runs_have_histories`).
use Rattle.std.specs.Prelude.{◌≡◌, ℕ, ◌<◌, ◌≤◌, List, length, drop, get_or, slice_index_or, Bool, true, false, Option, Some, None}
use Rattle.gz_lineage.specs.Lists.{Each, names as names_of}
use Rattle.gz_lineage.specs.Marks.{Mark, Reset, Added, IsPut}
use Rattle.gz_lineage.specs.Prefix.{IsPrefix}
use Rattle.gz_lineage.specs.Nodes.{Route, Report, Part, Node, Message, Letter, Closed, Opening, Adopting, Syncing, Open, Promised, Adopt, Replicate}
use Rattle.gz_lineage.specs.World.{World, node_at}

-- an entry has bytes
abbrev pub HasBytes : Mark → Type 0
HasBytes Reset = Unit {0}
HasBytes (Added e) = 0 < length e.bytes

-- Of each epoch: whether its primary has chosen an image, its list, and how many marks of that are the image. Behind the
-- image stand entries alone, and nowhere an empty one.
pub record History : Type 0 where
  pub made : ℕ → Bool
  pub list : ℕ → List Mark
  pub base : ℕ → ℕ
  pub puts : (e : ℕ) → made e ≡ true → Each IsPut (drop (base e) (list e))
  pub bytes : (e k : ℕ) → k < length (list e) → HasBytes (slice_index_or (list e) k Reset)

-- what a member has of an epoch: a prefix of its list, with all of the image
pub record IsCopy (h : History) (e : ℕ) (xs : List Mark) : Type 0 where
  pub made : h.made e ≡ true
  pub base : h.base e ≤ length xs
  pub within : IsPrefix xs (h.list e)

-- a report that has come is a copy
abbrev pub IsReported : History → Option Report → Type 0
IsReported h None = Unit {0}
IsReported h (Some r) = IsCopy h r.adopted r.image.entries

-- a primary that waits for reports, one from each other member, has chosen nothing yet
pub record IsOpening (h : History) (n : Node) (r : Route) (reports : List (ℕ × Option Report)) : Type 0 where
  pub promised : n.promised ≡ r.epoch
  pub unmade : h.made r.epoch ≡ false
  pub told : Each (λ (p : ℕ × Option Report). IsReported h p.1) reports
  pub all : names_of reports ≡ r.others

-- one that has chosen has the whole list of its epoch
pub record HasChosen (h : History) (n : Node) (r : Route) : Type 0 where
  pub promised : n.promised ≡ r.epoch
  pub adopted : n.adopted ≡ r.epoch
  pub whole : n.spool ≡ h.list r.epoch

-- it waits for each other member to adopt
pub record IsAdopting (h : History) (n : Node) (r : Route) (reached : List (ℕ × Option ℕ)) : Type 0 where
  pub chosen : HasChosen h n r
  pub all : names_of reached ≡ r.others

-- One that is open has its head at or behind the image, and knows an end of each other member.
pub record IsOpen (h : History) (n : Node) (r : Route) (held : List (ℕ × ℕ)) : Type 0 where
  pub chosen : HasChosen h n r
  pub all : names_of held ≡ r.others
  pub made : h.made r.epoch ≡ true
  pub base : h.base r.epoch ≤ n.head

-- a part is as the history has it
abbrev pub PartOf : History → Node → Part → Type 0
PartOf h n Closed = Unit {0}
PartOf h n (Opening r reports names) = IsOpening h n r reports
PartOf h n (Adopting r reached) = IsAdopting h n r reached
PartOf h n (Syncing r) = HasChosen h n r
PartOf h n (Open r held queue) = IsOpen h n r held

-- the node has a copy of the epoch that it adopted, and its part is as it has to be
pub record NodeOf (h : History) (n : Node) : Type 0 where
  pub spool : IsCopy h n.adopted n.spool
  pub part : PartOf h n n.part

-- an entry of an epoch's list, at its place, behind the image
pub record IsEntry (h : History) (e k : ℕ) (x : Mark) : Type 0 where
  pub made : h.made e ≡ true
  pub within : k < length (h.list e)
  pub here : get_or (h.list e) k x ≡ x
  pub base : h.base e ≤ k

-- what a letter says is of the history
abbrev pub MessageOf : History → Message → Type 0
MessageOf h (Promised e report) = IsCopy h report.adopted report.image.entries
MessageOf h (Adopt e image) = h.made e ≡ true
MessageOf h (Replicate e k x head) = IsEntry h e k x
MessageOf h _ = Unit {0}

-- a world has a history of which all its nodes and all letters ever said are
pub record HasHistory (w : World) : Type 0 where
  pub history : History
  pub nodes : (n : ℕ) → NodeOf history (node_at w.state.nodes n)
  pub said : Each (λ (l : Letter). MessageOf history l.body) w.said
