-- A call that is ended meets its clauses.
use Rattle.std.proofs.Common.{◌≡◌, ℕ, ◌+◌, ◌-◌, ◌≤◌, Bool, true, false, List, ◌++◌, length, refl, sym, ap, ◌∙◌}
use Rattle.std.proofs.Common.{subst, ⊎_elim, inl, inr, append_assoc, length-append, arith}
use Rattle.pp_link.specs.declared.layout.Sizes.{Sizes}
use Rattle.pp_model.specs.declared.Answer.{Answer}
use Rattle.pp_model.specs.declared.Answer.TheVariants.{Said, Full, Lost}
use Rattle.pp_model.specs.declared.Call.{Call}
use Rattle.pp_model.specs.declared.Call.TheVariants.{Get, Insert, Remove, Cut}
use Rattle.pp_model.specs.declared.Change.{Change}
use Rattle.pp_model.specs.declared.Pair.{Pair}
use Rattle.pp_model.specs.declared.Placed.{Placed}
use Rattle.pp_model.specs.declared.Reply.{Reply}
use Rattle.pp_model.specs.declared.steps.OrderEntry.{OrderEntry}
use Rattle.pp_model.specs.declared.steps.Step.{Step}
use Rattle.pp_model.specs.Calls.{changes}
use Rattle.pp_model.specs.MapCalls.{LeftAlone, LeavesPurse, Tidied, Answered}
use Rattle.pp_model.specs.Pass.{MapSizes, Meaning, steps_of}
use Rattle.pp_rule.specs.declared.views.SeatView.{SeatView}
use Rattle.pp_rule.specs.Causes.{PoolWords, CauseWords, pool_meaning, WasDetached}
use Rattle.pp_rule.specs.Orders.{made_by, entries_of}
use Rattle.pp_rule.proofs.Histories.{entries_append}
use Rattle.pp_base.specs.declared.purse.Purse.{Purse}
use Rattle.pp_calls.specs.PoolViews.{pool_view}
use Rattle.pp_calls.specs.Steps.{Went, Stepped, StandsThen, WriteNone}
use Rattle.pp_calls.proofs.Growing.{went_on}
use Rattle.pp_shelf.specs.Runs.{map_sizes, steps_made}
use Rattle.pp_turns.specs.Answers.{is_look, spends_of, IsSettled, Calm, SaysPlain, SaysStruck, GivesUp, SaysBy, AnswersBy, Ends}
use Rattle.pp_turns.specs.Causes.{TookBy, PassesOver}
use Rattle.pp_turns.specs.Purses.{TidiesUp, Leaves}
use Rattle.pp_turns.specs.Tallies.{Tally, losing, effected}
use Rattle.pp_turns.specs.Turns.{SawLast, Kept}
use Rattle.pp_turns.proofs.Answering.{says_plain, says_struck, gave_up}
use Rattle.pp_turns.proofs.Aside.{aside_at_purse}
use Rattle.pp_turns.proofs.Calm.{calm_aside, calm_both}
use Rattle.pp_turns.proofs.Placing.{replied_later, struck_later, unplaced_on}
use Rattle.pp_turns.proofs.Purses.{alone_on, tidied}
use Rattle.pp_turns.proofs.Stretches.{since_on, saw_on, steps_both, stepped_steps}

module _ (words : PoolWords) (causes : CauseWords) (z : MapSizes) (call : Call) (budget : ℕ) {W : Type 0}
    (left_on : (lost : ℕ) (later more : List Step) → causes.LeftBy z call budget lost later
    → causes.LeftBy z call budget lost (later ++ more)) (from v w : SeatView Change Placed W) (went : Went from v) (s : Stepped v w) where
  -- a record that was detached is so still
  detached_on : (n : ℕ) (later : List Step) → WasDetached (causes.IsAttached z) (words.opening z) n
      (length (made_by v.known.number v.order) - length later) v.known.number (entries_of v.order)
      → WasDetached (causes.IsAttached z) (words.opening z) n (length (made_by w.known.number w.order) - length (later ++ steps_made v w))
      w.known.number (entries_of w.order)
  detached_on n later d = record {
    so_far = d.so_far;
    begins = (
      d.begins.0 ++ entries_of s.order.0,
      ap entries_of s.order.1 ∙ (entries_append v.order s.order.0
          ∙ (ap (λ (l : List (OrderEntry Change)). l ++ entries_of s.order.0) d.begins.1 ∙ append_assoc d.so_far d.begins.0
          (entries_of s.order.0))),
    );
    since = let p : ℕ = v.known.number in let was = d.since in
        let all : length (made_by w.known.number w.order) ≡ length (made_by p v.order) + length s.steps =
        ap (λ (q : ℕ). length (made_by q w.order)) s.number ∙ (ap (λ (l : List Step). length l) s.made
        ∙ length-append (made_by p v.order) s.steps) in
        let long : length (later ++ steps_made v w) ≡ length later + length s.steps = length-append later (steps_made v w)
        ∙ ap (λ (l : List Step). length later + length l) (stepped_steps v w s) in
        let own : length (steps_of w.known.number d.so_far) ≡ length (steps_of p d.so_far) =
        ap (λ (q : ℕ). length (steps_of q d.so_far)) s.number in omega arith;
    gone = d.gone;
  }

  -- Why a call took a pair stays so by what ends it.
  took_on : (m m' : causes.reader.Memory) (lost early : ℕ) (later : List Step)
      → TookBy words causes z call budget (effected m lost early later) from v → IsSettled (causes.taken z call) (steps_made from v)
      → TookBy words causes z call budget (effected m' lost early (later ++ steps_made v w)) from w
  took_on m m' lost early later t settled = ⊎_elim
      (λ d. inl (subst (λ (n : ℕ). WasDetached (causes.IsAttached z) (words.opening z) n (length (made_by w.known.number w.order)
      - length (later ++ steps_made v w)) w.known.number (entries_of w.order)) (sym same)
      (detached_on (causes.taken z call (steps_made from v)) later d)))
      (λ (y : causes.LeftBy z call budget lost later). inr (left_on lost later (steps_made v w) y)) t
    where
      same : causes.taken z call (steps_made from w) ≡ causes.taken z call (steps_made from v)
      same = ap (causes.taken z call) (steps_both from v w went s) ∙ settled (steps_made v w)

-- A structure says how a call clears its walk words, which counts for nothing and writes no link.
module _ (words : PoolWords) (causes : CauseWords) (holds : MapSizes → List ℕ → List Pair → List ℕ → Type 0) (z : Sizes) (call : Call)
    (budget : ℕ) {W : Type 0}
    (left_on : (lost : ℕ) (later more : List Step) → causes.LeftBy (map_sizes z) call budget lost later
    → causes.LeftBy (map_sizes z) call budget lost (later ++ more))
    (over : PassesOver causes.reader z) (Clears : SeatView Change Placed W → SeatView Change Placed W → Type 0)
    (calms : (v w : SeatView Change Placed W) → Clears v w → Calm causes.reader (map_sizes z) call v w)
    (silent : (v w : SeatView Change Placed W) → Clears v w → WriteNone (steps_made v w)) where
  abbrev meaning : Meaning
  meaning = pool_meaning words causes holds

  -- What ends a call counts for nothing in it.
  pub leaves_calm : (looks : Bool) (share out : ℕ) (v w : SeatView Change Placed W) (p p' : Purse)
      → Leaves Clears looks z share out v w p p' → Calm causes.reader (map_sizes z) call v w
  leaves_calm true share out v w p p' l = calms v w l.clears
  leaves_calm false share out v w p p' l = calm_both causes.reader (map_sizes z) call v l.between w (calms v l.between l.clears)
      (calm_aside causes.reader z over call l.between w (aside_at_purse z l.tidies.names l.between w l.tidies.steps))

  module _ (share out : ℕ) (from v w : SeatView Change Placed W) (free : List ℕ) (p p' : Purse) (went : Went from v) where
    -- the purse of a call that changes its map
    tidies : (spends : ℕ) → TidiesUp Clears z share out v w p p' → Kept free share p.free.items (out + spends) → length w.known.chains ≤ 4
        → Tidied meaning (map_sizes z) spends (pool_view from free share) (pool_view w p'.free.items share)
    tidies spends t kept four = subst (λ (f : List ℕ). Tidied meaning (map_sizes z) spends (pool_view from free share)
        (pool_view w f share)) (sym (ap (λ f. f.items) t.free))
        (tidied meaning z refl from t.between w free share spends t.middle t.last (λ steps f. f)
        (went_on from v t.between went (calms v t.between t.clears).stepped)
        (aside_at_purse z t.tidies.names t.between w t.tidies.steps).stepped t.tidies (let l = t.long in omega arith) four)

    -- what a call leaves of its purse
    purse_by : (c : Call) → Leaves Clears (is_look c) z share out v w p p' → Kept free share p.free.items (out + spends_of words.need c)
        → (is_look c ≡ true → LeftAlone (pool_view from free share) (pool_view v p.free.items share)) → length w.known.chains ≤ 4
        → LeavesPurse meaning (map_sizes z) c (pool_view from free share) (pool_view w p'.free.items share)
    purse_by (Get k) l kept alone four = alone_on from v w free p.free.items p'.free.items share (alone refl)
        (calms v w l.clears).stepped (silent v w l.clears) l.purse (ap (λ f. f.items) l.free)
    purse_by (Insert k x) l kept alone four = tidies words.need l kept four
    purse_by (Remove k) l kept alone four = tidies 0 l kept four
    purse_by (Cut k x) l kept alone four = tidies 0 l kept four

  -- It is ended.
  module _ (share out : ℕ) (v w : SeatView Change Placed W) (p p' : Purse) (l : Leaves Clears (is_look call) z share out v w p p')
      (sizes : w.known.sizes ≡ v.known.sizes) (four : length w.known.chains ≤ 4) where
    calm : Calm causes.reader (map_sizes z) call v w
    calm = leaves_calm (is_look call) share out v w p p' l

    module _ (from : SeatView Change Placed W) (free : List ℕ) (stands : StandsThen w) (all_sizes : v.known.sizes ≡ from.known.sizes)
        (last : SawLast from v) (kept : Kept free share p.free.items (out + spends_of words.need call))
        (alone : is_look call ≡ true → LeftAlone (pool_view from free share) (pool_view v p.free.items share)) where
      abbrev AnsweredSo : Answer → ℕ → Type 0
      AnsweredSo answer lost = Answered meaning (map_sizes z) call budget (pool_view from free share) (pool_view w p'.free.items share)
          answer lost

      plain : (said : Reply) (lost : ℕ) → changes said ≡ false → SaysPlain words causes (map_sizes z) budget call said lost from v
          → AnsweredSo (Said said) lost
      plain said lost unchanged b = let r = calm.losing_so b.memory lost in
          let on = since_on causes.reader (map_sizes z) call b.start (losing b.memory lost) (losing r.0 lost) from v w b.since r.1 in
          says_plain words causes holds (map_sizes z) call budget from w free p'.free.items share b.start (losing r.0 lost) on
          (saw_on from v w b.since.went last calm.stepped) (sizes ∙ all_sizes) stands said
          (replied_later call said b.start from v w b.since.went.number calm.stepped.order b.replied calm.unplaced) b.few
          (purse_by share out from v w free p p' b.since.went call l kept alone four)

      struck : (said : Reply) (lost : ℕ) → SaysStruck words causes (map_sizes z) budget call said lost from v → AnsweredSo (Said said) lost
      struck said lost b = let r = calm.effected_so b.memory lost b.early b.later in
          let t' : Tally causes.reader.Memory = effected r.0 lost b.early (b.later ++ steps_made v w) in
          let on = since_on causes.reader (map_sizes z) call b.start (effected b.memory lost b.early b.later) t' from v w b.since r.1 in
          says_struck words causes holds (map_sizes z) call budget from w free p'.free.items share b.start t' on
          (saw_on from v w b.since.went last calm.stepped) (sizes ∙ all_sizes) stands said
          (struck_later call said from v w b.since.went.number calm.stepped.order b.struck calm.unplaced) b.few
          (λ x is. let why = b.took x is in
          took_on words causes (map_sizes z) call budget left_on from v w b.since.went calm.stepped b.memory r.0 lost b.early b.later
          why.0 why.1)
          (purse_by share out from v w free p p' b.since.went call l kept alone four)

      gives_up : (turns : ℕ) → GivesUp words causes (map_sizes z) budget call turns from v → AnsweredSo (Lost turns) turns
      gives_up turns b = let r = calm.losing_so b.memory turns in
          let on = since_on causes.reader (map_sizes z) call b.start (losing b.memory turns) (losing r.0 turns) from v w b.since r.1 in
          gave_up words causes holds (map_sizes z) call budget from w free p'.free.items share b.start (losing r.0 turns) on
          (saw_on from v w b.since.went last calm.stepped) (sizes ∙ all_sizes) stands turns
          (unplaced_on from v w b.since.went.number b.unplaced calm.unplaced) refl refl b.all
          (purse_by share out from v w free p p' b.since.went call l kept alone four)

      answers : (answer : Answer) (lost : ℕ) → AnswersBy words causes (map_sizes z) budget call answer lost from v
          → AnsweredSo answer lost
      answers (Said r) lost b = by (changes r) refl b
        where
          by : (c : Bool) → changes r ≡ c → SaysBy words causes (map_sizes z) budget call c r lost from v → AnsweredSo (Said r) lost
          by true is b = struck r lost b
          by false is b = plain r lost is b
      answers Full lost b = absurd b
      answers (Lost turns) lost b = subst (λ (n : ℕ). AnsweredSo (Lost turns) n) b.1 (gives_up turns b.0)

    pub ended_by : (IsCalm : Type 0) → IsCalm → (answer : Answer)
        → Ends words causes meaning z budget call IsCalm share out answer v w p p'
    ended_by IsCalm is_calm answer = record {
      calm = is_calm;
      answered = λ from free lost m stands. answers from free stands m.sizes m.last m.kept m.alone answer lost m.by;
    }

    pub ended : (answer : Answer) → Ends words causes meaning z budget call (Calm causes.reader (map_sizes z) call v w) share out answer
        v w p p'
    ended answer = ended_by (Calm causes.reader (map_sizes z) call v w) calm answer
