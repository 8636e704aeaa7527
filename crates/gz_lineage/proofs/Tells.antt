-- Runs that tell the right rules from wrong ones. Each is worked out under the rules as they are; the comment says what
-- the wrong rule of that name makes of it, of which `must-fail/` has the edit.
use Rattle.std.specs.Prelude.{◌≡◌, List, [], ◌∷◌, ◌++◌, true, refl}
use Rattle.gz_lineage.specs.Marks.{Reset}
use Rattle.gz_lineage.specs.Nodes.{Done, Shut}
use Rattle.gz_lineage.specs.World.{Event, Converge, Crash, Write, Deliver, Drop, Flush, Give, start}
use Rattle.gz_lineage.proofs.Told.{OfEach, throughout}
use Rattle.gz_lineage.proofs.Rows.{after, ask, entry, drains, takes, spool_of, told_to_clients}

-- a route of 1 and 2 is open
abbrev opens_two : List Event
opens_two = Converge 0 1 (2 ∷ []) ∷ drains 11

-- The second member never gets the entry, and the primary stops.
-- acknowledges_alone: the entry was acknowledged at once, the journal has it, and 2 acknowledges another one in its place.
-- serves_above_the_head: it was served at once, and isn't in 2's spool.
abbrev alone : List Event
alone = opens_two ++ Write 1 (ask 7) ∷ Deliver 0 ∷ Drop 0 ∷ Crash 1 ∷ Converge 0 2 [] ∷ drains 8 ++ Write 2 (ask 8) ∷ drains 4

alone_says : told_to_clients (after alone).said ≡ Done 2 1 ∷ []
alone_says = refl

alone_keeps : (after alone).journal ≡ entry 8 ∷ []
alone_keeps = refl

alone_has : spool_of alone 2 ≡ (entry 8 ∷ [], 1)
alone_has = refl

alone_handed_over : throughout OfEach alone (start 6) ≡ true
alone_handed_over = refl

-- An acknowledged entry, and a new primary that has nothing, beside a member that has it.
-- adopts_its_own_spool: 3 begins with a reset, and the entry is gone.
abbrev moves : List Event
moves = opens_two ++ Write 1 (ask 7) ∷ drains 5 ++ Converge 0 3 (2 ∷ []) ∷ drains 14 ++ Write 3 (ask 8) ∷ drains 8

moves_keeps : (after moves).journal ≡ entry 7 ∷ entry 8 ∷ []
moves_keeps = refl

moves_has : spool_of moves 3 ≡ (entry 7 ∷ entry 8 ∷ [], 2)
moves_has = refl

moves_handed_over : throughout OfEach moves (start 6) ≡ true
moves_handed_over = refl

-- A whole route stops, and the next primary was a member of an earlier one: it has the first entry, and the store both.
-- chooses_a_report_of_an_old_epoch: it begins with what it has, and the second entry is gone.
abbrev returns : List Event
returns = Converge 0 1 (3 ∷ []) ∷ drains 11 ++ Write 1 (ask 7) ∷ drains 5 ++ Converge 0 1 (2 ∷ []) ∷ drains 11 ++ Write 1 (ask 8) ∷ drains 5
    ++ Flush 1 ∷ Deliver 0 ∷ Crash 1 ∷ Crash 2 ∷ Converge 0 3 [] ∷ drains 5 ++ Write 3 (ask 9) ∷ drains 2

returns_keeps : (after returns).journal ≡ entry 7 ∷ entry 8 ∷ Reset ∷ entry 9 ∷ []
returns_keeps = refl

returns_has : spool_of returns 3 ≡ (entry 7 ∷ entry 8 ∷ Reset ∷ entry 9 ∷ [], 4)
returns_has = refl

returns_handed_over : throughout OfEach returns (start 6) ≡ true
returns_handed_over = refl

-- Of epoch 1, led by 1, it stays in flight that 2 holds an entry. Epoch 2 is that of 3 alone, which doesn't have it. Epoch
-- 3 is led by 1 again, with 2 and 3, and begins empty. An entry is put, which 3 holds and 2 doesn't; then 1 takes what 2
-- said of epoch 1, and stops.
-- takes_a_held_end_of_an_old_epoch: the entry was acknowledged, and 2, which leads next, hasn't it.
abbrev late : List Event
late = Converge 0 1 (2 ∷ 3 ∷ []) ∷ drains 17 ++ Write 1 (ask 7) ∷ Deliver 0 ∷ Deliver 0 ∷ Drop 0 ∷ Converge 0 3 [] ∷ takes 1 5
    ++ Converge 0 1 (2 ∷ 3 ∷ []) ∷ takes 1 18 ++ Write 1 (ask 8) ∷ Deliver 1 ∷ Deliver 2 ∷ Deliver 2 ∷ Deliver 0 ∷ Drop 0 ∷ Crash 1
    ∷ Converge 0 2 [] ∷ drains 8 ++ Write 2 (ask 9) ∷ drains 2

late_says : told_to_clients (after late).said ≡ Shut 3 ∷ Done 4 1 ∷ []
late_says = refl

late_keeps : (after late).journal ≡ entry 9 ∷ []
late_keeps = refl

late_has : spool_of late 2 ≡ (entry 9 ∷ [], 1)
late_has = refl

late_handed_over : throughout OfEach late (start 6) ≡ true
late_handed_over = refl

-- Both members have adopted the next epoch's image with an entry that nobody acknowledged, and the sync key is asked for.
-- raises_the_head_before_the_sync: the primary serves the entry, and the journal hasn't it.
abbrev asks : List Event
asks = Converge 0 1 (2 ∷ 3 ∷ []) ∷ drains 17 ++ Write 1 (ask 7) ∷ Deliver 0 ∷ Deliver 0 ∷ Drop 0 ∷ Crash 1 ∷ Converge 0 3 (2 ∷ []) ∷ drains 9

asks_has : spool_of asks 3 ≡ (entry 7 ∷ [], 0)
asks_has = refl

asks_keeps : (after asks).journal ≡ []
asks_keeps = refl

asks_handed_over : throughout OfEach asks (start 6) ≡ true
asks_handed_over = refl

-- 2 promises epoch 2, led by 3, before it gets an entry of epoch 1. It refuses the entry.
-- forgets_its_promise: it holds the entry, 1 acknowledges it, and 3 begins without it.
abbrev promises : List Event
promises = opens_two ++ Write 1 (ask 7) ∷ Deliver 0 ∷ Converge 0 3 (2 ∷ []) ∷ Deliver 1 ∷ Deliver 3 ∷ Deliver 0 ∷ drains 12 ++ Write 3 (ask 8) ∷ drains 8

promises_says : told_to_clients (after promises).said ≡ Done 2 1 ∷ []
promises_says = refl

promises_keeps : (after promises).journal ≡ entry 8 ∷ []
promises_keeps = refl

promises_has : spool_of promises 3 ≡ (entry 8 ∷ [], 1)
promises_has = refl

promises_handed_over : throughout OfEach promises (start 6) ≡ true
promises_handed_over = refl

-- An entry is sent twice, and 2 takes both letters before the primary stops.
-- A member that adds it again: 2 adds it twice and leads next, so the journal has one attempt twice.
abbrev gives : List Event
gives = opens_two ++ Write 1 (ask 7) ∷ Deliver 0 ∷ Give 1 0 ∷ Deliver 0 ∷ Deliver 0 ∷ Drop 0 ∷ Drop 0 ∷ Crash 1 ∷ Converge 0 2 [] ∷ drains 5

gives_keeps : (after gives).journal ≡ entry 7 ∷ []
gives_keeps = refl

gives_handed_over : throughout OfEach gives (start 6) ≡ true
gives_handed_over = refl
