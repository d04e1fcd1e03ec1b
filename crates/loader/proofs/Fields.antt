-- What the definitions of a run file make of a `Value`'s own lists, of a text and of good fields.
use Rattle.std.proofs.Common.{◌≡◌, ℕ, List, [], ◌∷◌, map, Bool, true, false, ◌&&◌, refl, ap, String, string_bytes, Some, None, IsUtf8}
use Rattle.std.specs.List.{list_all}
use Rattle.std.specs.Str.{is_utf8}
use Rattle.std.specs.declared.alloc.Global.{Global}
use Rattle.std.proofs.lemmas.Str.{IsUtf8-from_is_utf8, is_utf8-from_IsUtf8}
use Rattle.serde_json.specs.Data.{Data}
use Rattle.serde_json.specs.Read.{read}
use Rattle.serde_json.specs.View.{members_view}
use Rattle.serde_json.specs.declared.value.Value.{Value}
use Rattle.loader.specs.RunFile.{are_fields, is_field_of, value_of}

pub are_fields_view : (version : ℕ) (members : List (String Global × Value))
    → are_fields version (members_view members) ≡ list_all (λ name. is_field_of version (string_bytes name)) (map (λ m. m.0) members)
unfolding are_fields
are_fields_view version [] = refl
are_fields_view version (member ∷ others) = ap (λ b. is_field_of version (string_bytes member.0) && b) (are_fields_view version others)

pub value_read : (text : List ℕ) (d : Data) → IsUtf8 text → read text ≡ Some d → value_of text ≡ Some d
unfolding value_of
value_read text d good reads = rw (is_utf8-from_IsUtf8 text good) reads

refused_where : (text : List ℕ) (good : Bool) → is_utf8 text ≡ good → (IsUtf8 text → read text ≡ None) → value_of text ≡ None
unfolding value_of
refused_where text true is none = rw is (none (IsUtf8-from_is_utf8 text is))
refused_where text false is none = rw is refl

pub value_refused : (text : List ℕ) → (IsUtf8 text → read text ≡ None) → value_of text ≡ None
value_refused text none = refused_where text (is_utf8 text) refl none
