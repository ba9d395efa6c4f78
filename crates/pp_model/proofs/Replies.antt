-- What a reply that changes nothing tells of the value that a call found.
use Rattle.std.proofs.Common.{◌≡◌, ℕ, Bool, true, false, cond, nat_eq, Option, Some, None, sym, refl, ap}
use Rattle.std.proofs.Math.Bool.{false≢true}
use Rattle.pp_model.specs.declared.Call.{Call}
use Rattle.pp_model.specs.declared.Call.TheVariants.{Get, Insert, Remove, Cut}
use Rattle.pp_model.specs.declared.Reply.TheVariants.{Absent, Took, Other}
use Rattle.pp_model.specs.Calls.{reply_at, changes}

cut_some : (b : Bool) (w : ℕ) → cond b (Took w) (Other w) ≡ Absent → ⊥
cut_some true w e = cc
cut_some false w e = cc

cut_same : (b : Bool) (w v : ℕ) → cond b (Took w) (Other w) ≡ Other v → Some w ≡ Some v
cut_same true w v e = cc
cut_same false w v e = ap Some (cc)

-- among replies that change nothing, different finds give different ones
pub reply_once : (call : Call) (a o : Option ℕ) → changes (reply_at call a) ≡ false → reply_at call o ≡ reply_at call a → o ≡ a
reply_once (Get k) None None c e = refl
reply_once (Get k) None (Some w) c e = cc
reply_once (Get k) (Some v) None c e = cc
reply_once (Get k) (Some v) (Some w) c e = ap Some (cc)
reply_once (Insert k x) None o c e = absurd (false≢true (sym c))
reply_once (Insert k x) (Some v) None c e = cc
reply_once (Insert k x) (Some v) (Some w) c e = ap Some (cc)
reply_once (Remove k) None None c e = refl
reply_once (Remove k) None (Some w) c e = cc
reply_once (Remove k) (Some v) o c e = absurd (false≢true (sym c))
reply_once (Cut k x) None None c e = refl
reply_once (Cut k x) None (Some w) c e = absurd (cut_some (nat_eq w x) w e)
reply_once (Cut k x) (Some v) o c e = cut_other (nat_eq v x) c o e
  where
    cut_other : (b : Bool) → changes (cond b (Took v) (Other v)) ≡ false → (o : Option ℕ)
        → reply_at (Cut k x) o ≡ cond b (Took v) (Other v)
        → o ≡ Some v
    cut_other true c o e = absurd (false≢true (sym c))
    cut_other false c None e = cc
    cut_other false c (Some w) e = cut_same (nat_eq w x) w v e
