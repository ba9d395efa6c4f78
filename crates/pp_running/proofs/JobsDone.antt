-- What jobs that are done say of the passes, the lists and the answers of their callers.
use Rattle.std.proofs.Common.{◌≡◌, ℕ, List, length, map, sym, ap, ◌∙◌, arith, Vec, Global}
use Rattle.std.specs.Prelude.{Some, slice_get}
use Rattle.std.proofs.lemmas.Option.{slice_get-get_or, slice_get_within}
use Rattle.std.proofs.lemmas.List.{length-map}
use Rattle.std.proofs.Math.ListN.{get_or}
use Rattle.pp_callers.specs.declared.Job.{Job}
use Rattle.pp_callers.specs.Jobs.{AtBoth}
use Rattle.pp_running.proofs.Lists.{mapped_at, at_mapped}

-- where the jobs have these passes and these lists, the job at a position has those at the position
module _ {P C A : Type 0} (passes : List P) (lists : List (Vec C Global)) (jobs : List (Job P C A))
    (passes_are : map (λ job. job.pass) jobs ≡ passes) (lists_are : map (λ job. job.calls) jobs ≡ lists) where
  pub pass_at : (k : ℕ) (x : Job P C A) → slice_get jobs k ≡ Some x → slice_get passes k ≡ Some x.pass
  pass_at k x at = ap (λ l. slice_get l k) (sym passes_are) ∙ at_mapped (λ job. job.pass) jobs k x at

  pub list_at : (k : ℕ) (x : Job P C A) → slice_get jobs k ≡ Some x → slice_get (map (λ v. v.items) lists) k ≡ Some x.calls.items
  list_at k x at = at_mapped (λ v. v.items) lists k x.calls (ap (λ l. slice_get l k) (sym lists_are)
      ∙ at_mapped (λ job. job.calls) jobs k x at)

-- a job that is done, and the one that it was, which had a pass and a list of these
pub record Done {P C A : Type 0} (passes : List P) (lists : List (Vec C Global)) (Did : Job P C A → Job P C A → Type 0) (k : ℕ)
    (now : Job P C A) : Type 0 where
  pub was : Job P C A
  pub pass : slice_get passes k ≡ Some was.pass
  pub list : slice_get (map (λ v. v.items) lists) k ≡ Some was.calls.items
  pub did : Did was now

module _ {P C A : Type 0} (Did : Job P C A → Job P C A → Type 0) (passes : List P) (lists : List (Vec C Global))
    (was now : List (Job P C A)) (passes_are : map (λ job. job.pass) was ≡ passes) (lists_are : map (λ job. job.calls) was ≡ lists)
    (ran : AtBoth was now Did) where
  pub done : (k : ℕ) (y : Job P C A) → slice_get now k ≡ Some y → Done passes lists Did k y
  done k y at =
      let x : Job P C A = get_or was k y in
      let had : slice_get was k ≡ Some x = slice_get-get_or was k y (omega (arith, slice_get_within now k y at, ran.lengths)) in
      record {
        was = x;
        pass = pass_at passes lists was passes_are lists_are k x had;
        list = list_at passes lists was passes_are lists_are k x had;
        did = ran.each k x y had at;
      }

  -- the one that left this pass
  pub left : (k : ℕ) (pass : P) → slice_get (map (λ job. job.pass) now) k ≡ Some pass
      → (y : Job P C A) × Done passes lists Did k y × (y.pass ≡ pass)
  left k pass at = let from = mapped_at (λ job. job.pass) now k pass at in (from.0, done k from.0 from.1, from.2)

  -- the one whose pass showed this and then that, and whose calls got these answers
  pub told : {V : Type 0} (view : P → V) (c : ℕ) (pass last : V) (calls : List C) (got : List A)
      → slice_get (map view passes) c ≡ Some pass → slice_get (map view (map (λ job. job.pass) now)) c ≡ Some last
      → slice_get (map (λ v. v.items) lists) c ≡ Some calls
      → slice_get (map (λ v. v.items) (map (λ job. job.answers) now)) c ≡ Some got
      → (x y : Job P C A) × Did x y × (view x.pass ≡ pass) × (x.calls.items ≡ calls) × (y.answers.items ≡ got) × (view y.pass ≡ last)
  told view c pass last calls got at after list answer =
      let ends = mapped_at view (map (λ job. job.pass) now) c last after in
      let from = mapped_at (λ job. job.pass) now c ends.0 ends.1 in
      let y : Job P C A = from.0 in
      let one = done c y from.1 in
      let x : Job P C A = one.was in
      let pass_is : view x.pass ≡ pass = let e = sym (at_mapped view passes c x.pass one.pass) ∙ at in (cc) in
      let list_is : x.calls.items ≡ calls = let e = sym one.list ∙ list in (cc) in
      let got_is : y.answers.items ≡ got = let e = sym (at_mapped (λ v. v.items) (map (λ job. job.answers) now) c y.answers
      (at_mapped (λ job. job.answers) now c y from.1)) ∙ answer in (cc) in
      (x, y, one.did, pass_is, list_is, got_is, ap view from.2 ∙ ends.2)

  -- as many of each as there are passes
  pub passes_left : {V : Type 0} (view : P → V) → length (map view (map (λ job. job.pass) now)) ≡ length (map view passes)
  passes_left view = length-map (map (λ job. job.pass) now) view ∙ (length-map now (λ job. job.pass) ∙ (ran.lengths
      ∙ (sym (length-map was (λ job. job.pass)) ∙ (ap length passes_are ∙ sym (length-map passes view)))))

  pub answers_left : {V : Type 0} (view : P → V)
      → length (map (λ v. v.items) (map (λ job. job.answers) now)) ≡ length (map view passes)
  answers_left view = length-map (map (λ job. job.answers) now) (λ v. v.items) ∙ (length-map now (λ job. job.answers) ∙ (ran.lengths
      ∙ (sym (length-map was (λ job. job.pass)) ∙ (ap length passes_are ∙ sym (length-map passes view)))))

  pub lists_left : {V : Type 0} (view : P → V) → length lists ≡ length passes → length (map (λ v. v.items) lists) ≡ length (map view passes)
  lists_left view as_many = length-map lists (λ v. v.items) ∙ (as_many ∙ sym (length-map passes view))
