-- What a closed run says of one of its callers.
use Rattle.std.proofs.Common.{◌≡◌, ℕ, ◌+◌, ◌<◌, List, [], ◌∷◌, ◌++◌, length, map, take, Some, sym, ap, ◌∙◌, arith}
use Rattle.std.proofs.Common.{Vec, Global}
use Rattle.std.specs.Prelude.{slice_get, get_or}
use Rattle.std.proofs.lemmas.List.{length-map, map-append, take_more}
use Rattle.std.proofs.lemmas.Option.{slice_get_read, slice_get_within, get_or_from_slice_get}
use Rattle.pp_model.specs.declared.Call.{Call}
use Rattle.pp_model.specs.declared.Answer.{Answer}
use Rattle.pp_model.specs.declared.Placed.{Placed}
use Rattle.pp_model.specs.History.{Stands}
use Rattle.pp_model.specs.Pass.{RunView, CallerRun}
use Rattle.pp_running.proofs.Lists.{at_mapped}
use Rattle.pp_schedule.specs.Calls.{capped, all_capped}
use Rattle.pp_schedule.specs.Marks.{MarkedAs}
use Rattle.pp_schedule.proofs.Moved.{some_same}
use Rattle.pp_schedule.proofs.Orders.{within_get}
use Rattle.pp_places.specs.Places.{IsPlaced, AreAsLong}
use Rattle.pp_places.proofs.Entries.{marked_lengths}

-- one caller's calls, answers and marks, and its list in the run
pub record CallerOf (run : RunView) (k : ℕ) (calls : List Call) (got : List Answer) (own : List ℕ) : Type 0 where
  pub exact : List ℕ
  pub caller : CallerRun
  pub at : slice_get run.callers k ≡ Some caller
  pub marked : MarkedAs run.log calls got exact caller.mine
  pub marks_are : own ≡ all_capped exact
  pub stands : Stands run.log k caller.mine

module _ (lists : List (List Call)) (answers : List (List Answer)) (marks : List (List ℕ)) (run : RunView)
    (placed : IsPlaced lists answers marks run) where
  many_marks : length marks ≡ length lists
  many_marks = ap length placed.marked.marks_are ∙ (length-map placed.marked.exact all_capped ∙ placed.marked.many)

  pub caller_of : (k : ℕ) (calls : List Call) (got : List Answer) (own : List ℕ) → slice_get lists k ≡ Some calls
      → slice_get answers k ≡ Some got → slice_get marks k ≡ Some own → CallerOf run k calls got own
  caller_of k calls got own at_calls at_got at_own =
      let low = slice_get_within lists k calls at_calls in
      let m = placed.marked in
      let e = within_get m.exact k (omega (arith, low, m.many)) in
      let r = within_get run.callers k (omega (arith, low, placed.callers)) in
      let mapped : slice_get marks k ≡ Some (all_capped e.0) =
      ap (λ (l : List (List ℕ)). slice_get l k) m.marks_are ∙ at_mapped all_capped m.exact k e.0 e.1 in
      record {
        exact = e.0;
        caller = r.0;
        at = r.1;
        marked = m.each k calls got e.0 r.0 at_calls at_got e.1 r.1;
        marks_are = some_same (sym at_own ∙ mapped);
        stands = placed.stand k r.0 r.1;
      }

  pub as_long : AreAsLong lists answers marks
  as_long = record {
    many_answers = placed.answered;
    many_marks = many_marks;
    each_answers = λ k calls got at_calls at_got.
        let low = slice_get_within lists k calls at_calls in
        let own = within_get marks k (omega (arith, low, many_marks)) in
        let c = caller_of k calls got own.0 at_calls at_got own.1 in
        (marked_lengths run.log calls got c.exact c.caller.mine c.marked).0;
    each_marks = λ k calls own at_calls at_own.
        let low = slice_get_within lists k calls at_calls in
        let got = within_get answers k (omega (arith, low, placed.answered)) in
        let c = caller_of k calls got.0 own at_calls got.1 at_own in
        ap length c.marks_are ∙ (length-map c.exact capped ∙ (marked_lengths run.log calls got.0 c.exact c.caller.mine c.marked).1);
  }

-- the lists of the callers so far, and one more
pub lists_more : (out : List (Vec Placed Global)) (list : Vec Placed Global) (callers : List CallerRun) (k : ℕ) (r : CallerRun)
    → slice_get callers k ≡ Some r → map (λ v. v.items) out ≡ map (λ x. x.mine) (take k callers) → list.items ≡ r.mine
    → map (λ v. v.items) (out ++ list ∷ []) ≡ map (λ x. x.mine) (take (k + 1) callers)
lists_more out list callers k r at had is =
    let within = slice_get_within callers k r at in
    let next : take (k + 1) callers ≡ take k callers ++ r ∷ [] =
    take_more callers k r within ∙ ap (λ (x : CallerRun). take k callers ++ x ∷ []) (get_or_from_slice_get callers k r r at) in
    map-append (λ v. v.items) out (list ∷ []) ∙ (ap (λ l. l ++ list.items ∷ []) had
    ∙ (ap (λ m. map (λ x. x.mine) (take k callers) ++ m ∷ []) is
    ∙ sym (ap (map (λ x. x.mine)) next ∙ map-append (λ x. x.mine) (take k callers) (r ∷ []))))

-- what stands at one caller's place
pub record AtCaller (lists : List (Vec Call Global)) (answers : List (Vec Answer Global)) (marks : List (Vec ℕ Global)) (k : ℕ)
    (calls : Vec Call Global) (got : Vec Answer Global) (own : Vec ℕ Global) : Type 0 where
  pub calls_at : slice_get (map (λ v. v.items) lists) k ≡ Some calls.items
  pub got_at : slice_get (map (λ v. v.items) answers) k ≡ Some got.items
  pub own_at : slice_get (map (λ v. v.items) marks) k ≡ Some own.items
  pub many_got : length got.items ≡ length calls.items
  pub many_own : length own.items ≡ length calls.items

read_at : {A : Type 0} (rows : List (Vec A Global)) (n k : ℕ) (row : Vec A Global) → length (map (λ v. v.items) rows) ≡ n → k < n
    → row ≡ get_or rows k row → slice_get (map (λ v. v.items) rows) k ≡ Some row.items
read_at rows n k row many low is = at_mapped (λ v. v.items) rows k row
    (slice_get_read rows n k row (sym many ∙ length-map rows (λ v. v.items)) low is)

pub at_caller : (lists : List (Vec Call Global)) (answers : List (Vec Answer Global)) (marks : List (Vec ℕ Global))
    → AreAsLong (map (λ v. v.items) lists) (map (λ v. v.items) answers) (map (λ v. v.items) marks)
    → (k : ℕ) (calls : Vec Call Global) (got : Vec Answer Global) (own : Vec ℕ Global) → k < length lists
    → calls ≡ get_or lists k calls → got ≡ get_or answers k got → own ≡ get_or marks k own
    → AtCaller lists answers marks k calls got own
at_caller lists answers marks l k calls got own low is_calls is_got is_own =
    let many = length-map lists (λ v. v.items) in
    let calls_at = read_at lists (length lists) k calls many low is_calls in
    let got_at = read_at answers (length lists) k got (l.many_answers ∙ many) low is_got in
    let own_at = read_at marks (length lists) k own (l.many_marks ∙ many) low is_own in
    record {
      calls_at = calls_at;
      got_at = got_at;
      own_at = own_at;
      many_got = l.each_answers k calls.items got.items calls_at got_at;
      many_own = l.each_marks k calls.items own.items calls_at own_at;
    }
