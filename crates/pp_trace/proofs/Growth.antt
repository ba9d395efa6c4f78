-- The lists of a trace while it grows.
use Rattle.std.proofs.Common.{◌≡◌, ℕ, ◌<◌, List, [], ◌∷◌, ◌++◌, length, map, get_or, set, ap, ◌∙◌, sym}
use Rattle.std.proofs.lemmas.List.{map-set, get_or-map}
use Rattle.pp_model.specs.declared.Call.{Call}
use Rattle.pp_trace.specs.TraceLists.{with_call}

-- a push to one of the vectors is a push to its list
pub with_call-set : {X : Type 0} (list : X → List Call) (vectors : List X) (caller : ℕ) (old new : X) (call : Call)
    → caller < length vectors
    → old ≡ get_or vectors caller old → list new ≡ list old ++ call ∷ []
    → map list (set vectors caller new) ≡ with_call (map list vectors) caller call
with_call-set list vectors caller old new call within was is =
    map-set list vectors caller new
    ∙ ap (set (map list vectors) caller)
    (is ∙ ap (λ calls. calls ++ call ∷ []) (ap list was ∙ sym (get_or-map list vectors caller old [] within)))
