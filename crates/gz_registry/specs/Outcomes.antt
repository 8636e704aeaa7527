-- What a call answered, against what it is to answer.
use Rattle.std.specs.Prelude.{◌≡◌, Result, Ok, Err, ⊤}
use Rattle.gz_registry.specs.declared.error.RegistryError.{RegistryError}
use Rattle.gz_registry.specs.declared.error.RegistryError.TheVariants.{MembersFull, NoMember, KeysEnd, NoMemory}

-- a refusal is the one that is to come, or out of memory
abbrev pub Fails : {Y : Type 0} → RegistryError → Result Y RegistryError → Type 0
Fails MembersFull answer = answer ≡ Err MembersFull
Fails NoMember answer = answer ≡ Err NoMember
Fails KeysEnd answer = answer ≡ Err KeysEnd
Fails NoMemory answer = ⊤

-- what was answered is what is to be answered, unless memory ran out
abbrev pub Gives : {Y : Type 0} → Result Y RegistryError → Result Y RegistryError → Type 0
Gives (Ok x) answer = answer ≡ Ok x
Gives (Err e) answer = Fails e answer
