-- Whether a content is kept by a name, and what is answered.
use Rattle.std.specs.Prelude.{◌≡◌, ℕ, ◌+◌, ◌==◌, List, length, Result, Ok, Err, if◌then◌else◌, ⊤}
use Rattle.std.specs.Str.{bytes_eq}
use Rattle.sha1.specs.Sha1.{sha1}
use Rattle.gz_fragment.specs.Names.{FragmentName}
use Rattle.gz_fragment.specs.declared.error.FragmentError.{FragmentError}
use Rattle.gz_fragment.specs.declared.error.FragmentError.TheVariants.{BadSpan, Differs, NoMemory}

-- what is answered to a name with a content
abbrev pub refusal_of : FragmentName → List ℕ → Result Unit FragmentError
refusal_of name content =
    if name.begin + length content == name.end
    then (if bytes_eq name.sum (sha1 content) then Ok tt else Err (Differs name name.sum (sha1 content)))
    else Err BadSpan

-- a refusal is the one that is to come, or out of memory
abbrev pub Fails : {Y : Type 0} → FragmentError → Result Y FragmentError → Type 0
Fails NoMemory answer = ⊤
Fails e answer = answer ≡ Err e

-- what was answered is what is to be answered, unless memory ran out
abbrev pub Gives : {Y : Type 0} → Result Y FragmentError → Result Y FragmentError → Type 0
Gives (Ok x) answer = answer ≡ Ok x
Gives (Err e) answer = Fails e answer
