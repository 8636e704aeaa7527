-- What is printed of a commit is read back.
use Rattle.std.proofs.Common.{◌≡◌, ℕ, ◌≤◌, ◌%◌, List, [], ◌∷◌, length, map, refl, ap, sym, ◌∙◌, subst, true, false, Option, Some, None, nat_cmp, slice_index}
use Rattle.std.specs.Cmp.Lexicographic.{slice_cmp}
use Rattle.std.specs.List.Sorted.{IsStrictlySortedBy}
use Rattle.std.specs.Map.{keys_of}
use Rattle.std.specs.Str.{bytes_eq, IsUtf8}
use Rattle.std.proofs.lemmas.Slice.Eq.{bytes_eq-Decides}
use Rattle.hex.specs.Hex.{IsBytes}
use Rattle.hex.proofs.HexLemmas.{decode_sized-encode_lower}
use Rattle.serde_json.specs.Data.{Data, no_members, depth}
use Rattle.serde_json.specs.Read.{read, max_depth}
use Rattle.serde_json.specs.Written.{compact_text, has_float}
use Rattle.serde_json.specs.View.{items_of}
use Rattle.serde_json.proofs.OnLiterals.{serde_json_on_literals}
use Rattle.gz_json.specs.Json.{json_of}
use Rattle.gz_json.proofs.Known.{json_of_text}
use Rattle.gz_sequencer.specs.Machine.{Mark}
use Rattle.gz_uuid.specs.Producer.{AreProducer}
use Rattle.gz_app.specs.States.{put_all, AreKeys}
use Rattle.gz_store.specs.Stores.{Intent, Source, Checkpoint, Store, IsBack, intent_data, intent_of, producer_data, producer_of, producers_of, source_data, source_of, checkpoint_data, checkpoint_of, state_of_members, store_data, store_text, store_in, store_read, max_name}
use Rattle.gz_store.proofs.InOrder.{within, map_behind}
use Rattle.gz_store.proofs.Shapes.{store_whole, store_nests}

-- ---- lists

-- one more in front
pub one_back : {A : Type 0} (f : Data → Option A) (g : A → Data) (x : A) (xs : List A) → f (g x) ≡ Some x → IsBack f g xs → IsBack f g (x ∷ xs)
one_back f g x xs first rest = rw (first, rest) refl

-- ---- parts

pub intent_back : (i : Intent) → length i.journal ≤ max_name → intent_of (intent_data i) ≡ Some i
unfolding serde_json_on_literals
intent_back i short = rw (within (length i.journal) max_name short) refl

producer_again : (id : List ℕ) (ack pending : Option ℕ) → length id ≡ 6 → slice_index id 0 % 2 ≡ 1 → IsBytes id
    → producer_of (producer_data (id, record { ack = ack; pending = pending })) ≡ Some (id, record { ack = ack; pending = pending })
unfolding serde_json_on_literals
producer_again id None None six multicast bytes = rw (decode_sized-encode_lower id 6 six bytes, multicast) refl
producer_again id None (Some m) six multicast bytes = rw (decode_sized-encode_lower id 6 six bytes, multicast) refl
producer_again id (Some n) None six multicast bytes = rw (decode_sized-encode_lower id 6 six bytes, multicast) refl
producer_again id (Some n) (Some m) six multicast bytes = rw (decode_sized-encode_lower id 6 six bytes, multicast) refl

pub producer_back : (id : List ℕ) (mark : Mark) → AreProducer id → IsBytes id → producer_of (producer_data (id, mark)) ≡ Some (id, mark)
producer_back id mark lawful fit = producer_again id mark.ack mark.pending lawful.six lawful.multicast fit

pub source_back : (s : Source) → length s.journal ≤ max_name → producers_of (items_of (map producer_data s.point.producers)) ≡ Some s.point.producers → source_of (source_data s) ≡ Some s
unfolding serde_json_on_literals
source_back s short producers = rw (within (length s.journal) max_name short, producers) refl

pub checkpoint_back : (c : Checkpoint) → IsBack intent_of intent_data c.intents → IsBack source_of source_data c.sources → checkpoint_of (checkpoint_data c) ≡ Some c
unfolding serde_json_on_literals
checkpoint_back c intents sources = rw (intents, sources) refl

pub store_back : (s : Store) → checkpoint_of (checkpoint_data s.checkpoint) ≡ Some s.checkpoint → state_of_members (put_all s.state no_members) ≡ Some s.state → store_in (store_data s) ≡ Some s
unfolding serde_json_on_literals
store_back s checkpoint state = rw (checkpoint, state) refl

-- ---- the text

itself : (text : List ℕ) → bytes_eq text text ≡ true
itself text = (bytes_eq-Decides text text).1 refl

-- where its text is JSON, it is read back
pub text_back : (s : Store) (text : List ℕ) → store_in (store_data s) ≡ Some s → text ≡ store_text s → json_of text ≡ Some (store_data s) → store_read text ≡ Some s
unfolding store_read
text_back s text back printed read = rw (read, back, printed, itself (store_text s)) refl

-- ---- producers

-- producers in their order are read back as the map of themselves
pub producers_back : (es : List (List ℕ × Mark)) → IsStrictlySortedBy (slice_cmp nat_cmp) (keys_of es) → IsBack producer_of producer_data es
    → producers_of (items_of (map producer_data es)) ≡ Some es
producers_back es sorted back = rw back (ap (λ (xs : List (List ℕ × Mark)). Some xs) (map_behind es [] sorted))

-- ---- what is printed

-- where the object has no fraction, its text is the commit's
pub printed_text : (s : Store) (d : Data) (text : List ℕ) → d ≡ store_data s → AreKeys (keys_of s.state) → (has_float d ≡ false → text ≡ compact_text d) → text ≡ store_text s
unfolding store_text
printed_text s d text is keys printed = printed (ap (λ (e : Data). has_float e) is ∙ store_whole s keys) ∙ ap (λ (e : Data). compact_text e) is

-- and it is read back
pub printed_back : (s : Store) (d : Data) (text : List ℕ) → d ≡ store_data s → store_in (store_data s) ≡ Some s → AreKeys (keys_of s.state) → IsUtf8 text
    → (has_float d ≡ false → text ≡ compact_text d) → (depth d ≤ max_depth → read text ≡ Some d) → store_read text ≡ Some s
printed_back s d text is back keys utf8 printed reads =
    let deep : depth d ≤ max_depth = subst (λ (e : Data). depth e ≤ max_depth) (sym is) (store_nests s keys) in
    let found : json_of text ≡ Some (store_data s) = json_of_text text utf8 ∙ reads deep ∙ ap (λ (e : Data). Some e) is in
    text_back s text back (printed_text s d text is keys printed) found
