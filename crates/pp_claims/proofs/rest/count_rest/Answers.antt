use Rattle.std.proofs.Common.{◌≡◌, arith, ℕ, List, subst, sym, ap, ◌∙◌}
use Rattle.pp_pieces.specs.Counts.{CountedIn}
use Rattle.pp_pieces.specs.Left.{left}
use Rattle.pp_claims.specs.Rest.{MayMark, owned_of, left_over}
use Rattle.pp_claims.proofs.Owned.{zeros, empty_room, empty_long, written_back, marked_left, long_marked, long_false}
use Rattle.pp_claims.proofs.rest.count_rest.Goals as goal

pub mark_all-requires : goal.mark_all-requires
mark_all-requires c = let is = c.as_mut_slice.ensures.value ∙ c.in_ok-taken.ensures in
    λ k x at. subst (λ (n : ℕ). MayMark n x) (sym (long_false c.args.pieces c.as_mut_slice.result.now is)) (c.requires.may k x at)

pub count_left-requires-clause-room : goal.count_left-requires-clause-room
count_left-requires-clause-room c = empty_room c.as_mut_slice-2.result.now (c.as_mut_slice-2.ensures.value ∙ c.in_ok-counts.ensures)

pub returns : goal.returns
returns c = let is = c.as_mut_slice.ensures.value ∙ c.in_ok-taken.ensures in let taken = c.mark_all.new.taken in
    let new = c.count_left.new.counts in
    let zero = c.as_mut_slice-2.ensures.value ∙ c.in_ok-counts.ensures in let bytes = c.args.bytes.now in
    let ns = owned_of c.args.shares.now in
    let whole = long_marked c.args.pieces c.as_mut_slice.result.now taken ns is c.mark_all.ensures in
    let read : c.as_slice.result.now ≡ taken = c.as_slice.ensures.value ∙ written_back c.in_ok-taken.taken.len taken _
    (let items = long_false c.args.pieces c.in_ok-taken.taken.items c.in_ok-taken.ensures in
    omega (arith, whole, items, c.in_ok-taken.taken.ok.0)) in
    let rest = ap (left 0) read ∙ marked_left c.args.pieces c.as_mut_slice.result.now taken ns is c.mark_all.ensures in
    let counted = subst (λ (l : List ℕ). CountedIn c.as_mut_slice-2.result.now new bytes l) rest c.count_left.ensures in
    let from = subst (λ (l : List ℕ). CountedIn l new bytes (left_over 0 c.args.pieces ns)) zero counted in
    subst (λ (l : List ℕ). CountedIn (zeros 256) l bytes (left_over 0 c.args.pieces ns))
    (sym (written_back c.in_ok-counts.counts.len new _ (let items = empty_long c.in_ok-counts.counts.items c.in_ok-counts.ensures in
    omega (arith, c.count_left.ensures.all, items, c.in_ok-counts.counts.ok.0)))) from
