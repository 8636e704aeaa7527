-- How a primary opens: it asks for promises and for what the store has (`open_route`); when all have answered it chooses
-- an image (`opening_at`) and has it adopted (`adopts`); when all have adopted it asks the key space to write the epoch to
-- the sync key (`adopting`); and when that is done it is open (`on_synced`).
use Rattle.std.specs.Prelude.{ℕ, ◌+◌, ◌==◌, List, [], ◌∷◌, ◌++◌, Bool, ◌&&◌, ◌||◌, Option, Some, None, if◌then◌else◌, nat_le, nat_lt, codes, decimal}
use Rattle.gz_label.specs.declared.entry.Image.{Image}
use Rattle.gz_label.specs.declared.keys.KeyWrite.{KeyWrite}
use Rattle.gz_label.specs.declared.keys.Compare.{Compare}
use Rattle.gz_wire.specs.declared.msg.Msg.{Msg}
use Rattle.gz_wire.specs.declared.msg.Msg.TheVariants.{KsTxn, Promise, Promised, Adopt, Adopted, Refuse, Head, StoreList}
use Rattle.gz_spool.specs.Spools.{spool_end, empty_at, raised}
use Rattle.gz_replica.specs.declared.part.Route.{Route}
use Rattle.gz_replica.specs.declared.part.Part.{Part}
use Rattle.gz_replica.specs.declared.part.Part.TheVariants.{Closed, Opening, Adopting, Syncing, Open}
use Rattle.gz_replica.specs.declared.choice.Choice.{Choice}
use Rattle.gz_replica.specs.declared.choice.Choice.TheVariants.{Own, At}
use Rattle.gz_replica.specs.Slots.{Report, Slots, fill, full, slots_for, all_at, value_at}
use Rattle.gz_replica.specs.Member.{Member, Outcome, send, to_each, idle, answered, after_sends}

-- the names of the two nodes that never stop
abbrev pub keys : List ℕ
keys = codes "keys"

abbrev pub store : List ℕ
store = codes "store"

abbrev pub route_key : List ℕ → List ℕ
route_key j = codes "route/" ++ j

abbrev pub sync_key : List ℕ → List ℕ
sync_key j = codes "sync/" ++ j

-- ---- why a member refuses: a greater epoch was promised; another one was adopted; there is a gap before the entry

abbrev pub stale : ℕ
stale = 1

abbrev pub not_open : ℕ
not_open = 2

abbrev pub gap : ℕ
gap = 3

-- ---- the choice

-- a report is greater: by the adopted epoch, then by the end
abbrev pub beats : Report → Report → Bool
beats q r = nat_lt r.adopted q.adopted || (r.adopted == q.adopted && nat_lt (spool_end r.image) (spool_end q.image))

abbrev pub larger : Report → Option Report → Option Report
larger r None = Some r
larger r (Some q) = if beats q r then Some q else Some r

abbrev pub better : ℕ → Option Report → Option Report → Option Report
better o None q = q
better o (Some r) q = if nat_le o r.adopted then larger r q else q

-- of the reports that adopted at least `o` the greatest, the first of them at a tie
abbrev pub best : ℕ → Slots Report → Option Report
best o [] = None
best o (p ∷ ps) = better o p.1 (best o ps)

-- the chosen image; where there is none, an empty one at the store's end
abbrev pub image_taken : ℕ → Option Report → Image
image_taken stored None = empty_at stored
image_taken stored (Some r) = r.image

-- the report that a choice takes, where the own one is this
abbrev pub report_chosen : Choice → Report → Slots Report → Option Report
report_chosen Own own reports = Some own
report_chosen (At place) own reports = value_at reports place

-- ---- the steps of an opening

-- the transaction that writes the sync key, if the route is still of this epoch
abbrev pub sync_txn : List ℕ → ℕ → ℕ → Msg
sync_txn j epoch req = KsTxn req (record { key = route_key j; mod_revision = epoch } ∷ []) (record { key = sync_key j; value = Some (decimal epoch) } ∷ [])

-- every other member has adopted, or some haven't
abbrev pub adopting : List ℕ → ℕ → Member → Route → Slots ℕ → Outcome
adopting j req m r reached =
    if full reached
    then record { member = record m { part = Syncing r req }; sends = send keys (sync_txn j r.epoch req) ∷ []; numbered = 1 }
    else idle (record m { part = Adopting r reached })

abbrev pub adopts : List ℕ → ℕ → Member → Route → Image → Outcome
adopts j req m r image =
    after_sends (to_each (Adopt j r.epoch image) r.others)
    (adopting j req (record m { adopted = r.epoch; spool = image }) r (slots_for r.others))

-- the own report is that of the moment of the choice
abbrev pub own_report : Member → Report
own_report m = record { adopted = m.adopted; image = m.spool }

abbrev pub opening_at : List ℕ → ℕ → Member → Route → ℕ → Slots Report → Option ℕ → Outcome
opening_at j req m r list_req reports None = idle (record m { part = Opening r list_req reports None })
opening_at j req m r list_req reports (Some stored) =
    if full reports
    then adopts j req m r (image_taken stored (better r.opened (Some (own_report m)) (best r.opened reports)))
    else idle (record m { part = Opening r list_req reports (Some stored) })

-- A route above what was promised, with this broker first: it promises its epoch, and asks.
abbrev pub open_route : List ℕ → ℕ → Member → Route → Outcome
open_route j req m r = record {
  member = record m { promised = r.epoch; part = Opening r req (slots_for r.others) None };
  sends = send store (StoreList req j) ∷ to_each (Promise j r.epoch) r.others;
  numbered = 1;
}

-- A member's answer: the first one of each member counts.
abbrev pub on_promised : List ℕ → ℕ → Member → List ℕ → ℕ → Report → Part → Outcome
on_promised j req m from epoch report (Opening r list_req reports stored) =
    if epoch == r.epoch then opening_at j req m r list_req (fill from report reports) stored else idle m
on_promised j req m from epoch report part = idle m

-- The store's answer: the first one counts, if it is to the request of this part.
abbrev pub on_store_end : List ℕ → ℕ → Member → ℕ → ℕ → Part → Outcome
on_store_end j req m end answered_req (Opening r list_req reports None) =
    if answered_req == list_req then opening_at j req m r list_req reports (Some end) else idle m
on_store_end j req m end answered_req part = idle m

-- a member has adopted
abbrev pub on_adopted : List ℕ → ℕ → Member → List ℕ → ℕ → ℕ → Part → Outcome
on_adopted j req m from epoch end (Adopting r reached) =
    if epoch == r.epoch then adopting j req m r (fill from end reached) else idle m
on_adopted j req m from epoch end part = idle m

-- The sync key is written: the part is open, every other member holds the spool's end, and all of it is acknowledged.
abbrev pub on_synced : List ℕ → Member → Part → Outcome
on_synced j m (Syncing r req) =
    let end = spool_end m.spool in
    record {
      member = record m { spool = raised end m.spool; part = Open r (all_at end r.others) };
      sends = to_each (Head j r.epoch end m.spool.begin) r.others;
      numbered = 0;
    }
on_synced j m part = idle m

-- a later route was written first
abbrev pub on_sync_refused : Member → Part → Outcome
on_sync_refused m (Syncing r req) = idle (record m { part = Closed })
on_sync_refused m part = idle m
