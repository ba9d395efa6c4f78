-- An entry that a line says has a caller that a certificate may speak of.
use Rattle.std.proofs.Common.{◌≡◌, ℕ, ◌<◌, cond, ltb, Bool, List, [], ◌∷◌, Option, Some, None, option_and_then, subst, sym}
use Rattle.std.specs.Option.{IfSome}
use Rattle.std.specs.Str.{bytes_eq}
use Rattle.std.specs.Prelude.{codes}
use Rattle.std.proofs.lemmas.Bool.{cond_both, ltb-true}
use Rattle.pp_model.specs.declared.Call.{Call}
use Rattle.pp_model.specs.declared.Reply.{Reply}
use Rattle.pp_certificate.specs.declared.Entry.{Entry}
use Rattle.pp_certificate.specs.declared.Entry.TheVariants.{Opens}
use Rattle.pp_certificate.specs.Words.{plain_number, fields_of}
use Rattle.pp_certificate.specs.Lines.{caller_in, count_in, CallAndRest, call_of, reply_of, opening_of, ending_of, change_to, change_with}
use Rattle.pp_certificate.specs.Lines.{change_of_words, said_to, said_with, said_of_words, entry_of, line_entry, EntryFits}

below : (bound : ℕ) (o : Option ℕ) → IfSome (option_and_then (λ n. cond (ltb n bound) (Some n) None) o) (λ n. n < bound)
below bound None = tt
below bound (Some n) = cond_both (ltb n bound) (Some n) None (λ r. IfSome r (λ m. m < bound)) (ltb-true n bound) (λ _. tt)

change_to-fits : (caller number : ℕ) (call : Call) (rest : List (List ℕ)) → caller < 64 → IfSome (change_to caller number call rest)
    EntryFits
change_to-fits caller number call [] fits = fits
change_to-fits caller number call (field ∷ rest) fits = tt

change_with-fits : (caller number : Option ℕ) (called : Option CallAndRest) → IfSome caller (λ n. n < 64)
    → IfSome (change_with caller number called) EntryFits
change_with-fits None number called fits = tt
change_with-fits (Some caller) None called fits = tt
change_with-fits (Some caller) (Some number) None fits = tt
change_with-fits (Some caller) (Some number) (Some called) fits = change_to-fits caller number called.call called.rest fits

change-fits : (fields : List (List ℕ)) → IfSome (change_of_words fields) EntryFits
change-fits [] = tt
change-fits (caller ∷ []) = tt
change-fits (caller ∷ number ∷ rest) = change_with-fits (caller_in caller) (count_in number) (call_of rest) (below 64 (plain_number caller))

said_to-fits : (caller place : ℕ) (call : Call) (reply : Option Reply) → caller < 64 → IfSome (said_to caller place call reply) EntryFits
said_to-fits caller place call None fits = tt
said_to-fits caller place call (Some reply) fits = fits

said_with-fits : (caller place : Option ℕ) (called : Option CallAndRest) → IfSome caller (λ n. n < 64)
    → IfSome (said_with caller place called) EntryFits
said_with-fits None place called fits = tt
said_with-fits (Some caller) None called fits = tt
said_with-fits (Some caller) (Some place) None fits = tt
said_with-fits (Some caller) (Some place) (Some called) fits = said_to-fits caller place called.call (reply_of called.rest) fits

said-fits : (fields : List (List ℕ)) → IfSome (said_of_words fields) EntryFits
said-fits [] = tt
said-fits (caller ∷ []) = tt
said-fits (caller ∷ place ∷ rest) = said_with-fits (caller_in caller) (count_in place) (call_of rest) (below 64 (plain_number caller))

opening-fits : (fields : List (List ℕ)) → IfSome (opening_of fields) EntryFits
opening-fits [] = tt
opening-fits (version ∷ []) =
    cond_both (bytes_eq version (codes "1")) (Some Opens) None (λ e. IfSome e EntryFits) (λ _. tt) (λ _. tt)
opening-fits (version ∷ next ∷ more) = tt

ending-fits : (fields : List (List ℕ)) → IfSome (ending_of fields) EntryFits
ending-fits [] = tt
ending-fits (field ∷ more) = tt

either-fits : (b : Bool) (x y : Option Entry) → IfSome x EntryFits → IfSome y EntryFits → IfSome (cond b x y) EntryFits
either-fits b x y left right = cond_both b x y (λ e. IfSome e EntryFits) (λ _. left) (λ _. right)

entry-fits : (fields : List (List ℕ)) → IfSome (entry_of fields) EntryFits
entry-fits [] = tt
entry-fits (first ∷ rest) =
    either-fits (bytes_eq first (codes "change")) _ _ (change-fits rest)
    (either-fits (bytes_eq first (codes "said")) _ _ (said-fits rest)
    (either-fits (bytes_eq first (codes "certificate")) _ _ (opening-fits rest)
    (either-fits (bytes_eq first (codes "end")) _ None (ending-fits rest) tt)))

-- what a line says has a caller below 64, where it has one
pub entry_fits : (line : List ℕ) (entry : Entry) → Some entry ≡ line_entry line → EntryFits entry
entry_fits line entry says =
    let P : Option Entry → Type 0 = λ e. IfSome e EntryFits in
    subst P (sym says) (entry-fits (fields_of line))
