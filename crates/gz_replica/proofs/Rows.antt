-- Rules, worked out by hand and computed: the opening of a route of three, an append that two others hold, each refusal
-- of a member, and the choice.
use Rattle.std.specs.Prelude.{◌≡◌, ℕ, ◌+◌, List, [], ◌∷◌, ◌++◌, Option, Some, None, codes, refl}
use Rattle.std.specs.Fmt.{digits}
use Rattle.gz_label.specs.declared.entry.Entry.{Entry}
use Rattle.gz_label.specs.declared.entry.Image.{Image}
use Rattle.gz_wire.specs.declared.msg.Msg.{Msg}
use Rattle.gz_wire.specs.declared.msg.Msg.TheVariants.{KsTxn, Promise, Promised, Adopt, Adopted, Refuse, Replicate, Held, Head, StoreList}
use Rattle.gz_wire.specs.declared.msg.Send.{Send}
use Rattle.gz_spool.specs.Spools.{empty_at}
use Rattle.gz_replica.specs.declared.part.Route.{Route}
use Rattle.gz_replica.specs.declared.part.Part.{Part}
use Rattle.gz_replica.specs.declared.part.Part.TheVariants.{Closed, Open}
use Rattle.gz_replica.specs.Slots.{Report}
use Rattle.gz_replica.specs.Member.{Member, Outcome, new_member, send, idle}
use Rattle.gz_replica.specs.Opening.{keys, store, open_route, on_promised, on_store_end, on_adopted, on_synced, image_taken, best}
use Rattle.gz_replica.specs.Replicating.{on_promise, on_adopt, on_replicate, on_head}
use Rattle.gz_replica.specs.Primary.{put_entry, on_held, on_stored}

abbrev pub j : List ℕ
j = codes "x"

abbrev pub b1 : List ℕ
b1 = codes "b1"

abbrev pub b2 : List ℕ
b2 = codes "b2"

abbrev pub b3 : List ℕ
b3 = codes "b3"

-- a client's entry of three bytes
abbrev pub entry : ℕ → Entry
entry n = record { attempt = record { node = codes "k"; req = n }; bytes = n ∷ n ∷ n ∷ []; registers = [] }

abbrev pub image : List Entry → ℕ → Image
image entries head = record { begin = 0; base = []; entries = entries; head = head }

-- rules one after another
abbrev pub in_turn : List (Member → Outcome) → Member → Outcome
in_turn [] m = idle m
in_turn (f ∷ fs) m = let a = f m in let b = in_turn fs a.member in record { member = b.member; sends = a.sends ++ b.sends; numbered = a.numbered + b.numbered }

-- ---- the opening of a route of three, at epoch 4

abbrev pub three : Route
three = record { epoch = 4; others = b2 ∷ b3 ∷ []; opened = 0 }

-- b3 has an entry of epoch 2, of a route that never opened; so its image is the greatest
abbrev pub opening : List (Member → Outcome)
opening = (λ m. open_route j 1 m three)
    ∷ (λ m. on_promised j 2 m b2 4 (record { adopted = 0; image = empty_at 0 }) m.part)
    ∷ (λ m. on_store_end j 2 m 0 1 m.part)
    ∷ (λ m. on_promised j 2 m b3 4 (record { adopted = 2; image = image (entry 7 ∷ []) 0 }) m.part)
    ∷ (λ m. on_adopted j 2 m b3 4 3 m.part)
    ∷ (λ m. on_adopted j 2 m b2 4 3 m.part)
    ∷ (λ m. on_synced j m m.part)
    ∷ []

opening_sends : (in_turn opening new_member).sends ≡
    send store (StoreList 1 j)
    ∷ send b2 (Promise j 4)
    ∷ send b3 (Promise j 4)
    ∷ send b2 (Adopt j 4 (image (entry 7 ∷ []) 0))
    ∷ send b3 (Adopt j 4 (image (entry 7 ∷ []) 0))
    ∷ send keys (KsTxn 2 (record { key = codes "route/x"; mod_revision = 4 } ∷ []) (record { key = codes "sync/x"; value = Some (codes "4") } ∷ []))
    ∷ send b2 (Head j 4 3 0)
    ∷ send b3 (Head j 4 3 0)
    ∷ []
unfolding digits
opening_sends = refl

abbrev pub opened : Member
opened = record { promised = 4; adopted = 4; spool = image (entry 7 ∷ []) 3; part = Open three ((b2, 3) ∷ (b3, 3) ∷ []) }

opening_opens : (in_turn opening new_member).member ≡ opened
unfolding digits
opening_opens = refl

opening_numbers : (in_turn opening new_member).numbered ≡ 2
unfolding digits
opening_numbers = refl

-- ---- an append that two others hold

appending_sends : (in_turn ((λ m. put_entry j m (entry 8) m.part) ∷ (λ m. on_held j m b2 4 6 m.part) ∷ (λ m. on_held j m b3 4 6 m.part) ∷ []) opened).sends ≡
    send b2 (Replicate j 4 3 (entry 8) 3)
    ∷ send b3 (Replicate j 4 3 (entry 8) 3)
    ∷ send b2 (Head j 4 6 0)
    ∷ send b3 (Head j 4 6 0)
    ∷ []
appending_sends = refl

-- the first of them alone raises nothing, nor does one of another epoch
appending_waits : (in_turn ((λ m. put_entry j m (entry 8) m.part) ∷ (λ m. on_held j m b2 4 6 m.part) ∷ (λ m. on_held j m b3 2 6 m.part) ∷ []) opened).member.spool.head ≡ 3
appending_waits = refl

-- where there are no others an entry is acknowledged in its own step
alone_raises : (put_entry j (record opened { part = Open (record { epoch = 4; others = []; opened = 0 }) [] }) (entry 8) (Open (record { epoch = 4; others = []; opened = 0 }) [])).member.spool.head ≡ 6
alone_raises = refl

-- what the store has goes, and the others are told
stored_trims : on_stored j opened 3 opened.part ≡
    record { member = record opened { spool = record { begin = 3; base = []; entries = []; head = 3 } }; sends = send b2 (Head j 4 3 3) ∷ send b3 (Head j 4 3 3) ∷ []; numbered = 0 }
stored_trims = refl

-- ---- a member

abbrev pub member : Member
member = record { promised = 5; adopted = 4; spool = image (entry 7 ∷ []) 0; part = Closed }

-- below what it promised
stale_promise : (on_promise j member b1 4).sends ≡ send b1 (Refuse j 4 1 5) ∷ []
stale_promise = refl

stale_entry : (on_replicate j member b1 4 3 (entry 8) 0).sends ≡ send b1 (Refuse j 4 1 5) ∷ []
stale_entry = refl

-- of an epoch that it hasn't adopted
not_adopted : (on_replicate j member b1 5 3 (entry 8) 0).sends ≡ send b1 (Refuse j 5 2 4) ∷ []
not_adopted = refl

abbrev pub follower : Member
follower = record { promised = 4; adopted = 4; spool = image (entry 7 ∷ []) 0; part = Closed }

behind_a_gap : (on_replicate j follower b1 4 6 (entry 8) 0).sends ≡ send b1 (Refuse j 4 3 3) ∷ []
behind_a_gap = refl

-- at the end it is put in, and the head that comes with it is followed; below the end it is held already
at_the_end : on_replicate j follower b1 4 3 (entry 8) 3 ≡
    record { member = record follower { spool = image (entry 7 ∷ entry 8 ∷ []) 3 }; sends = send b1 (Held j 4 6) ∷ []; numbered = 0 }
at_the_end = refl

held_already : on_replicate j follower b1 4 0 (entry 7) 3 ≡
    record { member = record follower { spool = image (entry 7 ∷ []) 3 }; sends = send b1 (Held j 4 3) ∷ []; numbered = 0 }
held_already = refl

-- an empty entry, and an image whose head is above its end, are passed over
no_entry : on_replicate j follower b1 4 3 (record { attempt = record { node = codes "k"; req = 1 }; bytes = []; registers = [] }) 0 ≡ idle follower
no_entry = refl

no_image : on_adopt j follower b1 5 (image [] 3) ≡ idle follower
no_image = refl

-- ---- the choice

abbrev pub report : ℕ → List Entry → Option Report
report adopted entries = Some (record { adopted = adopted; image = image entries 0 })

-- the greater epoch, though another one holds more; of one epoch the longer; at a tie the first
newest : best 2 ((b1, report 2 (entry 7 ∷ entry 8 ∷ [])) ∷ (b2, report 3 (entry 7 ∷ [])) ∷ []) ≡ report 3 (entry 7 ∷ [])
newest = refl

longest : best 2 ((b1, report 2 (entry 7 ∷ [])) ∷ (b2, report 2 (entry 7 ∷ entry 8 ∷ [])) ∷ []) ≡ report 2 (entry 7 ∷ entry 8 ∷ [])
longest = refl

first_at_a_tie : best 2 ((b1, report 2 (entry 7 ∷ [])) ∷ (b2, report 2 (entry 9 ∷ [])) ∷ []) ≡ report 2 (entry 7 ∷ [])
first_at_a_tie = refl

-- none that adopted the sync key's epoch: the store's end
none_counts : image_taken 12 (best 3 ((b1, report 2 (entry 7 ∷ [])) ∷ (b2, report 0 []) ∷ [])) ≡ empty_at 12
none_counts = refl
