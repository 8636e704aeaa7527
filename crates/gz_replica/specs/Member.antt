-- A broker's part in one journal, and the words that its rules share. Each rule is a function of the journal's name, of
-- the number that a request of its own would have, of the member and of what the message says; where it is a primary's,
-- of the part too, which comes last. It gives an outcome: the member after it, what is sent, and how many requests were
-- numbered. What waits for the head, and what was put to the store, is the broker's and not the member's.
use Rattle.std.specs.Prelude.{ℕ, List, [], ◌∷◌, ◌++◌, Option, Some, None}
use Rattle.gz_label.specs.declared.entry.Image.{Image}
use Rattle.gz_wire.specs.declared.msg.Msg.{Msg}
use Rattle.gz_wire.specs.declared.msg.Send.{Send}
use Rattle.gz_spool.specs.Spools.{empty_at}
use Rattle.gz_replica.specs.declared.part.Part.{Part}
use Rattle.gz_replica.specs.declared.part.Part.TheVariants.{Closed, Open}

-- the greatest epoch that was promised, the one that was adopted last, the spool, and the primary's part
pub record Member : Type 0 where
  pub promised : ℕ
  pub adopted : ℕ
  pub spool : Image
  pub part : Part

-- what a rule gives: the member after it, what it sends, and how many requests it numbered
pub record Outcome : Type 0 where
  pub member : Member
  pub sends : List Send
  pub numbered : ℕ

abbrev pub new_member : Member
new_member = record { promised = 0; adopted = 0; spool = empty_at 0; part = Closed }

-- ---- outcomes

abbrev pub send : List ℕ → Msg → Send
send to msg = record { to = to; msg = msg }

-- a message to each of these, in their order
abbrev pub to_each : Msg → List (List ℕ) → List Send
to_each msg [] = []
to_each msg (m ∷ ms) = send m msg ∷ to_each msg ms

abbrev pub idle : Member → Outcome
idle m = record { member = m; sends = []; numbered = 0 }

abbrev pub answered : List ℕ → Member → Msg → Outcome
answered to m msg = record { member = m; sends = send to msg ∷ []; numbered = 0 }

abbrev pub after_sends : List Send → Outcome → Outcome
after_sends sends out = record out { sends = sends ++ out.sends }

-- the epoch at which the part is open
abbrev pub open_epoch_of : Part → Option ℕ
open_epoch_of (Open r held) = Some r.epoch
open_epoch_of part = None
