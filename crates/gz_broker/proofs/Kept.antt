-- What is put to the store, what is sent again, and what comes late, worked out by hand and computed.
use Rattle.std.specs.Prelude.{◌≡◌, List, [], ◌∷◌, true, false, Option, Some, None, codes, refl}
use Rattle.std.specs.Fmt.{digits}
use Rattle.gz_label.specs.declared.entry.Image.{Image}
use Rattle.gz_spec.specs.Records.{JournalSpec}
use Rattle.gz_wire.specs.declared.msg.Send.{Send}
use Rattle.gz_wire.specs.declared.msg.Msg.TheVariants.{Adopt, Head, Held, KsChange, KsSince, KsTxn, KsTxnNo, KsTxnOk, Promise, Promised, Replicate, StoreDone, StoreList, StorePut}
use Rattle.gz_spool.specs.Spools.{empty_at}
use Rattle.gz_replica.specs.declared.part.Route.{Route}
use Rattle.gz_replica.specs.declared.part.Part.{Part}
use Rattle.gz_replica.specs.declared.part.Part.TheVariants.{Adopting, Open, Opening, Syncing}
use Rattle.gz_replica.specs.Member.{send}
use Rattle.gz_replica.specs.Opening.{keys, store}
use Rattle.gz_broker.specs.Brokers.{Broker, Deliver, Flush, Row, Watch, idle}
use Rattle.gz_broker.specs.Closing.{is_to_put}
use Rattle.gz_broker.specs.Resuming.{resends}
use Rattle.gz_broker.specs.Step.{step, sends_of}
use Rattle.gz_broker.proofs.Rows.{j, b2, b3, k, entry, spec, open_part, spool, row, broker, in_turn, from}

-- ---- the store

-- a flush puts the bytes from begin to head; when the store has them they go, and the others are told
flushed : sends_of (in_turn (Flush j ∷ from store (StoreDone 3 j 0 3) ∷ []) (broker row)) ≡
    send store (StorePut 3 j 0 3 (7 ∷ 7 ∷ 7 ∷ []))
    ∷ send b2 (Head j 4 3 3)
    ∷ send b3 (Head j 4 3 3)
    ∷ []
flushed = refl

-- a put that another one replaced does nothing any more
replaced : sends_of (in_turn (Flush j ∷ Flush j ∷ from store (StoreDone 3 j 0 3) ∷ []) (broker row)) ≡
    send store (StorePut 3 j 0 3 (7 ∷ 7 ∷ 7 ∷ []))
    ∷ send store (StorePut 4 j 0 3 (7 ∷ 7 ∷ 7 ∷ []))
    ∷ []
replaced = refl

-- nor one whose part is closed
closed_put : sends_of (in_turn (Flush j ∷ from b2 (Promise j 6) ∷ from store (StoreDone 3 j 0 3) ∷ []) (broker row)) ≡
    send store (StorePut 3 j 0 3 (7 ∷ 7 ∷ 7 ∷ []))
    ∷ send b2 (Promised j 6 4 spool)
    ∷ []
closed_put = refl

-- there is a fragment's length, and the head rose; not where it didn't, or where a put isn't answered
abbrev pub short : Option JournalSpec
short = Some (record (spec []) { fragment_length = 3 })

rose : is_to_put short open_part 0 row ≡ true
rose = refl

stood : is_to_put short open_part 3 row ≡ false
stood = refl

unanswered : is_to_put short open_part 0 (record row { putting = Some (record { req = 2; end = 1 }) }) ≡ false
unanswered = refl

too_short : is_to_put (Some (spec [])) open_part 0 row ≡ false
too_short = refl

-- ---- what is sent again, under the number that it had

abbrev pub three : Route
three = record { epoch = 4; others = b2 ∷ b3 ∷ []; opened = 0 }

abbrev pub again : Part → Image → List Send
again part image = let r : Row = record row { member = record row.member { part = part; spool = image } } in sends_of (resends j r (broker r))

opening_again : again (Opening three 1 ((b2, Some (record { adopted = 0; image = empty_at 0 })) ∷ (b3, None) ∷ []) None) spool ≡
    send store (StoreList 1 j) ∷ send b3 (Promise j 4) ∷ []
opening_again = refl

told_already : again (Opening three 1 ((b2, None) ∷ (b3, None) ∷ []) (Some 0)) spool ≡ send b2 (Promise j 4) ∷ send b3 (Promise j 4) ∷ []
told_already = refl

adopting_again : again (Adopting three ((b2, Some 3) ∷ (b3, None) ∷ [])) spool ≡ send b3 (Adopt j 4 spool) ∷ []
adopting_again = refl

syncing_again : again (Syncing three 2) spool ≡
    send keys (KsTxn 2 (record { key = codes "route/x"; mod_revision = 4 } ∷ []) (record { key = codes "sync/x"; value = Some (codes "4") } ∷ [])) ∷ []
unfolding digits
syncing_again = refl

-- to each other member the entries that it isn't known to hold, and to all the head
open_again : again (Open three ((b2, 3) ∷ (b3, 6) ∷ [])) (record spool { entries = entry 7 ∷ entry 8 ∷ [] }) ≡
    send b2 (Replicate j 4 3 (entry 8) 3)
    ∷ send b2 (Head j 4 3 0)
    ∷ send b3 (Head j 4 3 0)
    ∷ []
open_again = refl

-- ---- what comes late, or isn't for a broker

abbrev pub syncing : Broker
syncing = broker (record row { member = record row.member { part = Syncing three 2 } })

-- the answer to another request opens nothing, the right one does, and a second one does nothing
another_number : step syncing (from keys (KsTxnOk 1 5)) ≡ idle syncing
another_number = refl

opens_once : sends_of (in_turn (from keys (KsTxnOk 2 5) ∷ from keys (KsTxnOk 2 5) ∷ []) syncing) ≡ send b2 (Head j 4 3 0) ∷ send b3 (Head j 4 3 0) ∷ []
opens_once = refl

refused_once : step (broker row) (from keys (KsTxnNo 2 1 (codes "route/x") 6)) ≡ idle (broker row)
refused_once = refl

-- a change that was skipped, or is there already
skipped_change : step (broker row) (from keys (KsChange 6 [])) ≡ idle (broker row)
skipped_change = refl

old_change : step (broker row) (from keys (KsChange 4 [])) ≡ idle (broker row)
old_change = refl

-- an end of an older epoch
old_end : step (broker row) (from b2 (Held j 2 9)) ≡ idle (broker row)
old_end = refl

-- a client is no member
a_clients_end : step (broker row) (Deliver k true (Held j 4 9)) ≡ idle (broker row)
a_clients_end = refl

watches : sends_of (step (broker row) Watch) ≡ send keys (KsSince 3 4) ∷ []
watches = refl
