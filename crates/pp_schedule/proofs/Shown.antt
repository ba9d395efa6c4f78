-- What a caller's parts show, taken apart.
use Rattle.std.proofs.Common.{◌≡◌, Option, Some, None, refl, sym, ap, ◌∙◌, subst}
use Rattle.std.specs.Prelude.{IsSomeAnd, Result, Ok, Err, IfOk, Bool, true, is_some}
use Rattle.pp_model.specs.Pass.{PassView, GoingView}
use Rattle.pp_schedule.specs.Calls.{IsCalling, CallerAt, Doing, Shows, rests, calls_on}

pub some_at : {A : Type 0} → (o : Option A) (P : A → Type 0) → IsSomeAnd o P → (x : A) × (o ≡ Some x) × P x
some_at None P h = absurd h
some_at (Some x) P h = (x, refl, h)

pub ok_of : {A E : Type 0} (r : Result A E) (P Q : A → Type 0) → IfOk r P → ((x : A) → P x → Q x) → IfOk r Q
ok_of (Ok x) P Q h f = f x h
ok_of (Err e) P Q h f = tt

module _ {P G F : Type 0} (belongs : P → Type 0) (idle : P → Type 0) (under_way : P → G → PassView → Type 0) (view : P → PassView)
    (going_view : P → G → GoingView) (parts : F → Option (P × G)) (v : CallerAt) where
  pub record IsGoing (f : F) : Type 0 where
    pub doing : Doing
    pub is : v.doing ≡ Some doing
    pub calling : IsCalling belongs under_way view going_view (parts f) v.pass doing.going doing.before

  pub record IsResting (p : P) : Type 0 where
    pub belongs_to : belongs p
    pub is_idle : idle p
    pub pass_is : view p ≡ v.pass
    pub none : v.doing ≡ None

  pub going_shown : (pass : Option P) (call : Option F) (f : F) → Shows belongs idle under_way view going_view parts v pass call
      → call ≡ Some f → IsGoing f
  going_shown pass call f (rests p own not_going is none) at = absurd cc
  going_shown pass call f (calls_on h d doing calling) at =
      let same : h ≡ f = cc in
      subst (λ (x : F). IsGoing x) same (record { doing = d; is = doing; calling = calling })

  -- a call is going where the caller's parts have one
  pub on_shown : (pass : Option P) (call : Option F) → Shows belongs idle under_way view going_view parts v pass call
      → is_some call ≡ is_some v.doing
  on_shown pass call (rests p own not_going is none) = sym (ap is_some none)
  on_shown pass call (calls_on h d doing calling) = sym (ap is_some doing)

  pub resting_shown : (pass : Option P) (call : Option F) (p : P) → Shows belongs idle under_way view going_view parts v pass call
      → pass ≡ Some p → IsResting p
  resting_shown pass call p (rests q own not_going is none) at =
      let same : q ≡ p = cc in
      subst (λ (x : P). IsResting x) same (record { belongs_to = own; is_idle = not_going; pass_is = is; none = none })
  resting_shown pass call p (calls_on h d doing calling) at = absurd cc

  pub rests_where_none : (pass : Option P) (call : Option F) → Shows belongs idle under_way view going_view parts v pass call
      → call ≡ None → (p : P) × (pass ≡ Some p)
  rests_where_none pass call (rests p own not_going is none) at = (p, refl)
  rests_where_none pass call (calls_on h d doing calling) at = absurd cc

pub calling_belongs : {P G : Type 0} (belongs : P → Type 0) (under_way : P → G → PassView → Type 0) (view : P → PassView)
    (going_view : P → G → GoingView) (both : Option (P × G)) (pass : PassView) (going : GoingView) (before : PassView)
    → IsCalling belongs under_way view going_view both pass going before → IsSomeAnd both (λ x. belongs x.0)
calling_belongs belongs under_way view going_view both pass going before c = rw c.is c.belongs_to

-- what is told of a future's call, is told of the call that it shows
pub calling_struck : {P G : Type 0} (belongs : P → Type 0) (under_way : P → G → PassView → Type 0) (view : P → PassView)
    (going_view : P → G → GoingView) (both : Option (P × G)) (pass : PassView) (going : GoingView) (before : PassView) (b : Bool)
    → IsCalling belongs under_way view going_view both pass going before → IsSomeAnd both (λ x. b ≡ (going_view x.0 x.1).struck)
    → b ≡ going.struck
calling_struck belongs under_way view going_view both pass going before b c told =
    (rw c.is at told) ∙ ap (λ (g : GoingView). g.struck) c.going_is

pub calling_some : {P G : Type 0} (belongs : P → Type 0) (under_way : P → G → PassView → Type 0) (view : P → PassView)
    (going_view : P → G → GoingView) (both : Option (P × G)) (pass : PassView) (going : GoingView) (before : PassView)
    → IsCalling belongs under_way view going_view both pass going before → is_some both ≡ true
calling_some belongs under_way view going_view both pass going before c = ap is_some c.is
