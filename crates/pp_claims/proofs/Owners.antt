-- What a run of claims makes of the pieces: each has one owner, or is left over.
use Rattle.std.proofs.Common.{◌≡◌, ℕ, zero, suc, ◌+◌, ◌<◌, true, false, List, [], ◌∷◌, length, get_or, take}
use Rattle.std.proofs.Common.{Some, refl, sym, ap, ◌∙◌, subst, ⊎_elim, arith}
use Rattle.std.specs.Prelude.{slice_get}
use Rattle.std.proofs.lemmas.Bool.{cases_Bool, true≢false}
use Rattle.std.proofs.lemmas.Option.{slice_get-get_or, slice_get_within}
use Rattle.pp_model.specs.declared.Answer.{Answer}
use Rattle.pp_model.specs.declared.Answer.TheVariants.{Said, Full, Lost}
use Rattle.pp_model.specs.declared.Call.{Call}
use Rattle.pp_model.specs.declared.Change.{Change}
use Rattle.pp_model.specs.declared.Pair.{Pair}
use Rattle.pp_model.specs.Calls.{key_of, map_after}
use Rattle.pp_model.specs.FiniteMap.{find}
use Rattle.pp_model.specs.History.{run_from, contents_of}
use Rattle.pp_model.specs.Lists.{AtEach}
use Rattle.pp_model.specs.Pass.{PassView, MapSizes, Meaning, RunView}
use Rattle.pp_running.specs.Run.{IsRunOf, IsCaller}
use Rattle.pp_pieces.specs.Counts.{is_added, owned}
use Rattle.pp_pieces.specs.Left.{has}
use Rattle.pp_claims.specs.Claimed.{all_owned, is_refused, Owns, AreOwned}
use Rattle.pp_claims.proofs.Apart.{Apart, apart_both, times_once}
use Rattle.pp_claims.proofs.Lists.{AreClaims, owned_at, won_there, all_owned_at, at_all_owned}
use Rattle.pp_claims.proofs.Logs.{IsClaim, SoundFrom, claimed_by, owner_kept, claim_of, claims_apart, claimed_owner, owner_claimed}
use Rattle.pp_claims.proofs.Placings.{owned_is, change_claims, said_claim}

-- what was owned at a place of the log is owned at its end
kept_from : (pieces : ℕ) (m : List Pair) (log : List Change) (p k v : ℕ) → AtEach log (λ q c. IsClaim pieces c) → SoundFrom m log
    → find (run_from m (take p log)) k ≡ Some v → find (run_from m log) k ≡ Some v
kept_from pieces m [] zero k v claims sound found = found
kept_from pieces m [] (suc p) k v claims sound found = found
kept_from pieces m (c ∷ log) zero k v claims sound found = owner_kept pieces m (c ∷ log) k v claims sound found
kept_from pieces m (c ∷ log) (suc p) k v claims sound found =
    kept_from pieces (map_after m c.call) log p k v (λ q d at. claims (suc q) d at) (λ q d at. sound (suc q) d at) found

-- what two lists of owned pieces, told by the log, share
all_apart : (pieces low : ℕ) (log : List Change) (lists : List (List Call)) (answers : List (List Answer))
    → AtEach log (λ p c. IsClaim pieces c) → SoundFrom [] log
    → ((c : ℕ) (calls : List Call) (got : List Answer) → slice_get lists c ≡ Some calls → slice_get answers c ≡ Some got
    → owned calls got ≡ claimed_by (low + c) log)
    → Apart pieces (all_owned lists answers)
all_apart pieces low log [] answers claims sound each = tt
all_apart pieces low log (calls ∷ lists) [] claims sound each = tt
all_apart pieces low log (calls ∷ lists) (got ∷ answers) claims sound each =
    let none : low + 0 ≡ low = omega arith in
    let first : owned calls got ≡ claimed_by low log = each 0 calls got refl refl ∙ ap (λ (c : ℕ). claimed_by c log) none in
    let later : (c : ℕ) (more : List Call) (given : List Answer) → slice_get lists c ≡ Some more → slice_get answers c ≡ Some given
    → owned more given ≡ claimed_by (low + 1 + c) log = λ c more given list answer.
    let e : low + suc c ≡ low + 1 + c = omega arith in
    each (suc c) more given list answer ∙ ap (λ (n : ℕ). claimed_by n log) e in
    apart_both pieces (owned calls got) (all_owned lists answers)
    (subst (Apart pieces) (sym first) (claims_apart pieces [] log low claims sound))
    (all_apart pieces (low + 1) log lists answers claims sound later)
    (λ n one. ⊎_elim
    (λ (two : has n (all_owned lists answers) ≡ true).
    let other = all_owned_at n lists answers two in
    let mine = claimed_owner pieces [] log low n claims sound (ap (has n) (sym first) ∙ one) in
    let its = claimed_owner pieces [] log (low + 1 + other.0) n claims sound
    (ap (has n) (sym (later other.0 other.1 other.2 other.3 other.4)) ∙ other.5) in
    let same : low ≡ low + 1 + other.0 = some_same low (low + 1 + other.0) (sym mine ∙ its) in absurd (omega (arith, same)))
    (λ (no : has n (all_owned lists answers) ≡ false). no)
    (cases_Bool (has n (all_owned lists answers))))
  where
    some_same : (a b : ℕ) → Some a ≡ Some b → a ≡ b
    some_same a b e = cc

-- a reply isn't refused
not_both : (a : Answer) → is_added a ≡ true → is_refused a ≡ true → ⊥
not_both (Said r) won lost = true≢false (sym lost)
not_both Full won lost = true≢false (sym won)
not_both (Lost t) won lost = true≢false (sym won)

nobody : PassView
nobody = record {
  caller = 0;
  seen = [];
  mine = [];
  steps = [];
  order = [];
  wrote = 0;
  room = 0;
  free = [];
  retired = [];
  chains = 0;
  share = 0;
}

module _ (meaning : Meaning) (sizes : MapSizes) (races pieces : ℕ) (opened : List PassView) (lists : List (List Call))
    (answers : List (List Answer)) (run : RunView) (ran : IsRunOf meaning sizes races opened lists answers run)
    (are : AreClaims pieces lists)
  where
    pub caller_at : (c : ℕ) (calls : List Call) (got : List Answer) → slice_get lists c ≡ Some calls → slice_get answers c ≡ Some got
        → (pass : PassView) × IsCaller meaning sizes races run c pass calls got
    caller_at c calls got list answer =
        let low : c < length opened = omega (arith, slice_get_within lists c calls list, ran.passes_are) in
        (get_or opened c nobody, ran.each c (get_or opened c nobody) calls got (slice_get-get_or opened c nobody low) list answer)

    own_is : (c : ℕ) (calls : List Call) (got : List Answer) → slice_get lists c ≡ Some calls → slice_get answers c ≡ Some got
        → owned calls got ≡ claimed_by c run.log
    own_is c calls got list answer = let one = (caller_at c calls got list answer).1 in
        owned_is run.log c pieces calls got one.closed.mine (are c calls list) one.said one.stands

    list_of : (c : ℕ) → c < length lists → (calls : List Call) × (slice_get lists c ≡ Some calls)
    list_of c low = (get_or lists c [], slice_get-get_or lists c [] low)

    answers_of : (c : ℕ) → c < length lists → (got : List Answer) × (slice_get answers c ≡ Some got)
    answers_of c low = (get_or answers c [], slice_get-get_or answers c [] (omega (arith, low, ran.answered)))

    claims : AtEach run.log (λ p c. IsClaim pieces c)
    claims p c at =
        let low = ran.known p c at in
        let list = list_of c.caller low in let answer = answers_of c.caller low in
        let one = (caller_at c.caller list.0 answer.0 list.1 answer.1).1 in
        let is = change_claims run.log c.caller pieces list.0 answer.0 one.closed.mine (are c.caller list.0 list.1) one.said one.stands
        p c at refl in
        record { number = is.0; low = is.1; call = is.2 }

    sound : SoundFrom [] run.log
    sound = ran.sound

    paired : (c number : ℕ) → Owns lists answers c number → find (contents_of run.log) number ≡ Some c
    paired c number owns = claimed_owner pieces [] run.log c number claims sound
        (ap (has number) (sym (own_is c owns.calls owns.got owns.list owns.answered)) ∙ owns.won)

    own : (c number : ℕ) → find (contents_of run.log) number ≡ Some c → (number < pieces) × Owns lists answers c number
    own c number found = ⊎_elim
        (λ none. absurd cc)
        (λ one. let change : Change = one.1 in let claim = claims one.0 change one.2 in
        let low = ran.known one.0 change one.2 in
        let here : c < length lists = omega (arith, low, one.4) in
        let list = list_of c here in let answer = answers_of c here in (
          omega (arith, claim.low, ap key_of claim.call, one.3),
          record {
            calls = list.0;
            got = answer.0;
            list = list.1;
            answered = answer.1;
            won = ap (has number) (own_is c list.0 answer.0 list.1 answer.1)
                ∙ owner_claimed pieces run.log c number one.0 change one.2 one.3 one.4;
          },
        ))
        (claim_of pieces [] run.log number c claims sound found)

    pub apart : Apart pieces (all_owned lists answers)
    apart = all_apart pieces 0 run.log lists answers claims sound (λ c calls got list answer.
        let e : c ≡ 0 + c = omega arith in own_is c calls got list answer ∙ ap (λ (n : ℕ). claimed_by n run.log) e)

    owned_by_all : (c number : ℕ) → Owns lists answers c number → has number (all_owned lists answers) ≡ true
    owned_by_all c number owns = at_all_owned number lists answers c owns.calls owns.got owns.list owns.answered owns.won

    refused_by : (number c j : ℕ) (calls : List Call) (got : List Answer) (call : Call) (answer : Answer)
        → has number (all_owned lists answers) ≡ false → slice_get lists c ≡ Some calls → slice_get answers c ≡ Some got
        → slice_get calls j ≡ Some call → slice_get got j ≡ Some answer → key_of call ≡ number → is_refused answer ≡ true
    refused_by number c j calls got call Full none list answered at given key = refl
    refused_by number c j calls got call (Lost t) none list answered at given key = refl
    refused_by number c j calls got call (Said r) none list answered at given key =
        let one = (caller_at c calls got list answered).1 in
        absurd (⊎_elim
        (λ (added : is_added (Said r) ≡ true).
        let won = won_there number calls got j call (Said r) at given key added in
        true≢false (sym (at_all_owned number lists answers c calls got list answered won) ∙ none))
        (λ held. true≢false (sym (owned_by_all held.1 number
        (own held.1 number (kept_from pieces [] run.log held.0 number held.1 claims sound held.2)).1) ∙ none))
        (said_claim run.log c pieces calls got one.closed.mine (are c calls list) one.said one.stands j number call r at given key))

    pub are_owned : AreOwned pieces lists answers (contents_of run.log)
    are_owned = record {
      paired = paired;
      own = own;
      once = λ number. times_once pieces number (all_owned lists answers) apart;
      refused = λ number low none c j calls got call answer list answered at given key.
          refused_by number c j calls got call answer none list answered at given key;
      left = λ number refused. ⊎_elim
          (λ (one : has number (all_owned lists answers) ≡ true).
          let who = all_owned_at number lists answers one in
          let which = owned_at number who.1 who.2 who.5 in
          absurd (not_both which.2 which.6 (refused who.0 which.0 who.1 who.2 which.1 which.2 who.3 who.4 which.3 which.4 which.5)))
          (λ (none : has number (all_owned lists answers) ≡ false). none)
          (cases_Bool (has number (all_owned lists answers)));
    }
