-- What a replay by a plan prints: its output, or the certificate of its run.
use Rattle.std.specs.Prelude.{ℕ, Bool, true, false, cond, List, [], ◌∷◌, map, codes, Option}
use Rattle.std.specs.Str.{bytes_eq}
use Rattle.pp_model.specs.declared.Answer.{Answer}
use Rattle.pp_model.specs.History.{contents_of}
use Rattle.pp_model.specs.Pass.{RunView}
use Rattle.pp_trace.specs.declared.Make.{Make}
use Rattle.pp_certificate.specs.Printed.{certificate_text, Fit}
use Rattle.pp_replay.specs.Replay.{output}
use Rattle.pp_places.specs.Held.{AreHeld}

-- the first word asks for the certificate
abbrev pub asks_places : List (List ℕ) → Bool
asks_places [] = false
asks_places (word ∷ words) = bytes_eq word (codes "places")

-- the words that say the settings: all others
abbrev pub setting_words : List (List ℕ) → List (List ℕ)
setting_words [] = []
setting_words (word ∷ words) = cond (bytes_eq word (codes "places")) words (word ∷ words)

-- the text of a run: that of its answers and of the map after the whole log; or, with places, that of its log and of the callers' lists
abbrev pub text_of : Bool → Option Make → List (List Answer) → RunView → List ℕ
text_of true make answers run = certificate_text run.log (map (λ r. r.mine) run.callers)
text_of false make answers run = output make answers (contents_of run.log)

-- with places, the numbers of the run's log and lists are in a certificate's ranges
abbrev pub HasRanges : Bool → RunView → Type 0
HasRanges true run = Fit run.log (map (λ r. r.mine) run.callers)
HasRanges false run = Unit {0}

-- or as far as types hold them
abbrev pub IsHeldWith : Bool → RunView → Type 0
IsHeldWith true run = AreHeld run.log (map (λ r. r.mine) run.callers)
IsHeldWith false run = Unit {0}
