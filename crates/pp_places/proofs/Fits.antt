-- The log and the lists of a run have a certificate.
use Rattle.std.proofs.Common.{◌≡◌, ℕ, zero, suc, ◌+◌, ◌≤◌, Bool, List, [], ◌∷◌, length, map, Some}
use Rattle.std.proofs.Common.{refl, sym, ap, ◌∙◌, subst, arith}
use Rattle.std.specs.Prelude.{slice_get}
use Rattle.std.proofs.lemmas.List.{length-map}
use Rattle.std.proofs.lemmas.Option.{slice_get_within}
use Rattle.pp_model.specs.declared.Call.{Call}
use Rattle.pp_model.specs.declared.Call.TheVariants.{Get, Insert, Remove, Cut}
use Rattle.pp_model.specs.declared.Answer.{Answer}
use Rattle.pp_model.specs.declared.Answer.TheVariants.{Said, Full, Lost}
use Rattle.pp_model.specs.declared.Change.{Change}
use Rattle.pp_model.specs.declared.Placed.{Placed}
use Rattle.pp_model.specs.Calls.{key_of}
use Rattle.pp_model.specs.Lists.{AtEach}
use Rattle.pp_model.specs.History.{FitsBy, FitsAsChange}
use Rattle.pp_model.specs.MapCalls.{SaidCall, said_call, said_calls}
use Rattle.pp_model.specs.Pass.{PassView, MapSizes, Meaning, RunView, CallerRun}
use Rattle.pp_trace.specs.TraceLists.{KeysFit}
use Rattle.pp_running.specs.Run.{IsRunOf, IsCaller}
use Rattle.pp_running.proofs.Lists.{at_mapped, mapped_at}
use Rattle.pp_certificate.specs.Printed.{CallFits, Fit}
use Rattle.pp_check.proofs.Standing.{has_all}
use Rattle.pp_schedule.proofs.Moved.{some_same}
use Rattle.pp_schedule.proofs.Orders.{within_get}
use Rattle.pp_places.specs.Held.{IsCallHeld, AreHeld}

abbrev greatest : ℕ
greatest = 18446744073709551612

call_fits : (call : Call) → key_of call ≤ greatest → IsCallHeld call → CallFits call
call_fits (Get k) key held = key
call_fits (Insert k v) key held = (key, held)
call_fits (Remove k) key held = key
call_fits (Cut k v) key held = (key, held)

-- the keys of answered calls are those of calls
said_keys : (calls : List Call) (answers : List Answer) → AtEach calls (λ n call. key_of call ≤ greatest) → (n : ℕ) (s : SaidCall)
    → slice_get (said_calls calls answers) n ≡ Some s → key_of s.call ≤ greatest
said_keys [] answers each n s at = absurd cc
said_keys (c ∷ calls) [] each n s at = absurd cc
said_keys (c ∷ calls) (Said r ∷ answers) each zero s at =
    subst (λ (x : SaidCall). key_of x.call ≤ greatest) (some_same at) (each 0 c refl)
said_keys (c ∷ calls) (Said r ∷ answers) each (suc n) s at = said_keys calls answers (λ k x own. each (suc k) x own) n s at
said_keys (c ∷ calls) (Full ∷ answers) each n s at = said_keys calls answers (λ k x own. each (suc k) x own) n s at
said_keys (c ∷ calls) (Lost turns ∷ answers) each n s at = said_keys calls answers (λ k x own. each (suc k) x own) n s at

module _ (meaning : Meaning) (sizes : MapSizes) (races : ℕ) (opened : List PassView) (lists : List (List Call))
    (answers : List (List Answer)) (run : RunView) (ran : IsRunOf meaning sizes races opened lists answers run) where
  -- what is known of a caller of the run
  record Known (c : ℕ) (r : CallerRun) : Type 0 where
    pass : PassView
    calls : List Call
    got : List Answer
    asked : slice_get lists c ≡ Some calls
    is : IsCaller meaning sizes races run c pass calls got
    same : r.mine ≡ is.closed.mine

  known_caller : (c : ℕ) (r : CallerRun) → slice_get run.callers c ≡ Some r → Known c r
  known_caller c r at =
      let low = slice_get_within run.callers c r at in
      let pass = within_get opened c (omega (arith, low, ran.callers, ran.passes_are)) in
      let calls = within_get lists c (omega (arith, low, ran.callers)) in
      let got = within_get answers c (omega (arith, low, ran.callers, ran.answered)) in
      let is = ran.each c pass.0 calls.0 got.0 pass.1 calls.1 got.1 in
      record {
        pass = pass.0;
        calls = calls.0;
        got = got.0;
        asked = calls.1;
        is = is;
        same = ap (λ (x : CallerRun). x.mine) (some_same (sym at ∙ is.listed));
      }

  module _ (keys : KeysFit lists) where
    mine_keys : (c : ℕ) (r : CallerRun) → slice_get run.callers c ≡ Some r → (n : ℕ) (s : Placed) → slice_get r.mine n ≡ Some s
        → key_of s.call ≤ greatest
    mine_keys c r at n s here =
        let k = known_caller c r at in
        let own : slice_get k.is.closed.mine n ≡ Some s = subst (λ (l : List Placed). slice_get l n ≡ Some s) k.same here in
        let said = at_mapped said_call k.is.closed.mine n s own in
        said_keys k.calls k.got (keys c k.calls k.asked) n (said_call s)
        (subst (λ (l : List SaidCall). slice_get l n ≡ Some (said_call s)) k.is.said said)

    log_keys : (p : ℕ) (c : Change) → slice_get run.log p ≡ Some c → key_of c.call ≤ greatest
    log_keys p c at =
        let low = ran.known p c at in
        let r = within_get run.callers c.caller (omega (arith, low, ran.callers)) in
        let k = known_caller c.caller r.0 r.1 in
        let has = has_all run.log c.caller k.is.closed.mine k.is.stands p c at refl in
        let fits : FitsAsChange run.log c.caller (has.position + 1) has.call =
        subst (λ (b : Bool). FitsBy b run.log c.caller (has.position + 1) has.call) has.changed
        (k.is.stands.each has.position has.call has.listed) in
        let place : fits.before ≡ p = omega (arith, fits.place, has.is) in
        let logged = some_same (sym at ∙ (ap (slice_get run.log) (sym place) ∙ fits.logged)) in
        let own : slice_get r.0.mine has.position ≡ Some has.call =
        subst (λ (l : List Placed). slice_get l has.position ≡ Some has.call) (sym k.same) has.listed in
        subst (λ (x : Change). key_of x.call ≤ greatest) (sym logged) (mine_keys c.caller r.0 r.1 has.position has.call own)

    pub fits_run : length lists ≤ 64 → AreHeld run.log (map (λ r. r.mine) run.callers) → Fit run.log (map (λ r. r.mine) run.callers)
    fits_run few held = record {
      callers = omega (arith, few, ran.callers, length-map run.callers (λ (r : CallerRun). r.mine));
      changes = λ p c at.
          let low = ran.known p c at in
          let is = held.changes p c at in
          record {
            caller = omega (arith, low, few);
            number = is.number;
            call = call_fits c.call (log_keys p c at) is.call;
          };
      placed = λ c mine at n s here.
          let r = mapped_at (λ (x : CallerRun). x.mine) run.callers c mine at in
          let is = held.placed c mine at n s here in
          let own : slice_get r.0.mine n ≡ Some s = subst (λ (l : List Placed). slice_get l n ≡ Some s) (sym r.2) here in
          record {
            place = is.place;
            call = call_fits s.call (mine_keys c r.0 r.1 n s own) is.call;
            reply = is.reply;
          };
    }
