use Rattle.std.proofs.Common.{ℕ, List, [], ◌∷◌, ◌++◌, take, subst, sym, ap, ◌∙◌}
use Rattle.std.proofs.lemmas.List.{take_more}
use Rattle.pp_model.specs.declared.Call.{Call}
use Rattle.pp_pieces.specs.Counts.{owned}
use Rattle.pp_pieces.specs.Left.{Marked}
use Rattle.pp_pieces.proofs.Marks.{marked-more}
use Rattle.pp_claims.specs.declared.shares.Share.{Share}
use Rattle.pp_claims.specs.Rest.{owned_of}
use Rattle.pp_claims.proofs.Owned.{owned_of-more}
use Rattle.pp_claims.proofs.rest.mark_all.Goals as goal

pub loop-share-preserved : goal.loop-share-preserved
loop-share-preserved c = let i = c.loop-share.share-index in let shares = c.args.shares.now in let x = c.share-item.result in
    let front = take i shares in
    let more = take_more shares i x c.loop-share-test.true ∙ ap (λ (s : Share). front ++ s ∷ []) (sym c.share-item.is) in
    let all = ap owned_of more ∙ owned_of-more front x in
    let marked = subst (λ (l : List Call). Marked c.loop-share.taken c.mark_owned.new.taken (owned l x.answers.now))
    c.as_slice.ensures.value
    c.mark_owned.ensures in
    subst (λ (l : List ℕ). Marked c.args.taken.now c.mark_owned.new.taken l) (sym all)
    (marked-more c.args.taken.now c.loop-share.taken c.mark_owned.new.taken (owned_of front) (owned x.calls.items x.answers.now)
    c.loop-share.invariant marked)
