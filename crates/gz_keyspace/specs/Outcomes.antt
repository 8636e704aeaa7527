-- What a call answered, against what it is to answer.
use Rattle.std.specs.Prelude.{◌≡◌, Result, Ok, Err, ⊤}
use Rattle.gz_keyspace.specs.declared.error.KeyError.{KeyError}
use Rattle.gz_keyspace.specs.declared.error.KeyError.TheVariants.{NoMemory}

-- a refusal is the one that is to come, or out of memory
abbrev pub Fails : {Y : Type 0} → KeyError → Result Y KeyError → Type 0
Fails NoMemory answer = ⊤
Fails e answer = answer ≡ Err e

-- what was answered is what is to be answered, unless memory ran out
abbrev pub Gives : {Y : Type 0} → Result Y KeyError → Result Y KeyError → Type 0
Gives (Ok x) answer = answer ≡ Ok x
Gives (Err e) answer = Fails e answer
