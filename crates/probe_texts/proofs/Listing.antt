-- The lines of what is listed.
use Rattle.std.proofs.Common.{◌≡◌, ℕ, Bool, true, false, cond, List, [], ◌∷◌, ◌++◌, refl, sym, ap, ◌∙◌, append-nil}
use Rattle.std.specs.Prelude.{filter}
use Rattle.std.specs.List.{flat_map}
use Rattle.std.proofs.lemmas.List.Concat.{flat_map-append}
use Rattle.std.proofs.lemmas.List.Elements.{filter-append}
use Rattle.events.specs.declared.event.Event.{Event}
use Rattle.probe_texts.specs.declared.kinds.Kind.{Kind}
use Rattle.probe_texts.specs.Listed.{event_line, is_listed, listed_lines}

pub listed_none : (kinds : List Kind) → listed_lines kinds [] ≡ []
unfolding listed_lines
listed_none kinds = refl

pub listed_append : (kinds : List Kind) (xs ys : List Event) → listed_lines kinds (xs ++ ys) ≡ listed_lines kinds xs ++ listed_lines kinds ys
unfolding listed_lines
listed_append kinds xs ys =
    ap (λ (es : List Event). flat_map event_line es) (filter-append (is_listed kinds) xs ys)
    ∙ flat_map-append event_line (filter (is_listed kinds) xs) (filter (is_listed kinds) ys)

one_by : (kinds : List Kind) (e : Event) (listed : Bool) → flat_map event_line (cond listed (e ∷ []) []) ≡ cond listed (event_line e) []
one_by kinds e true = append-nil (event_line e)
one_by kinds e false = refl

pub listed_one : (kinds : List Kind) (e : Event) → listed_lines kinds (e ∷ []) ≡ cond (is_listed kinds e) (event_line e) []
unfolding listed_lines
listed_one kinds e = one_by kinds e (is_listed kinds e)

-- a text with the line of an event after it, if the event is listed
pub told_listed : (kinds : List Kind) (e : Event) (text more : List ℕ)
    → is_listed kinds e ≡ true → more ≡ text ++ event_line e → more ≡ text ++ listed_lines kinds (e ∷ [])
told_listed kinds e text more is told = told ∙ ap (λ xs. text ++ xs) (ap (λ l. cond l (event_line e) []) (sym is) ∙ sym (listed_one kinds e))

pub not_told : (kinds : List Kind) (e : Event) (text more : List ℕ) → is_listed kinds e ≡ false → more ≡ text → more ≡ text ++ listed_lines kinds (e ∷ [])
not_told kinds e text more is same =
    same ∙ sym (append-nil text) ∙ ap (λ xs. text ++ xs) (ap (λ l. cond l (event_line e) []) (sym is) ∙ sym (listed_one kinds e))
