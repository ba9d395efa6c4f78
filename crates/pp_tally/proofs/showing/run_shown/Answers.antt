use Rattle.std.proofs.Common.{length, map, refl, sym, ap, ◌∙◌, subst}
use Rattle.pp_model.specs.MapCalls.{IsClean}
use Rattle.pp_model.specs.Pass.{PassView}
use Rattle.pp_running.proofs.Lists.{mapped_at}
use Rattle.pp_pieces.specs.Claims.{all_claims}
use Rattle.pp_pieces.specs.Pieces.{pieces_of}
use Rattle.pp_replay.proofs.Unders.{none_lost, under}
use Rattle.pp_tally.proofs.Finishes.{refused, cause_of, text_is}
use Rattle.pp_tally.proofs.showing.run_shown.Goals as goal

pub claim_on-requires-clause-all : goal.claim_on-requires-clause-all
claim_on-requires-clause-all g c κs within = c.requires.count ∙ sym (ap (λ z. z.passes) c.requires.chosen.sizes_are)

pub finish-way-requires : goal.finish-way-requires
finish-way-requires g c = record { all = ap length c.deref.ensures.value ∙ c.in-Ok.ensures.total.all }

pub returns-in_default : goal.returns-in_default
returns-in_default g c = λ words before after said_by read.
    refused words c.args.settings before after _ c.args.bytes.now _ _ said_by read c.without_closing.ensures.0

pub returns : goal.returns
returns g c = λ words before after said_by read.
    let run = c.requires.chosen.runs _ _ _ _ c.in-Ok.ensures.ran in
    let ends = rw (
      c.deref.ensures.value,
      text_is c.args.bytes.now c.in-Ok.claimed.total.items _ _ refl c.count_pieces.ensures.count
          c.in-Ok.ensures.total,
    ) at c.finish-way.ensures in
    cause_of words c.args.settings c.args.bytes.now (map (λ v. v.items) c.in-Ok.claimed.answers.items)
    (map (λ v. v.items) c.in-Ok.claimed.counts.items) c.in-Ok.claimed.rest.items _ before _ after _ said_by read
    (under c.args.settings (map g.M.MapCalls.pass_view c.args.passes.items)
    (all_claims c.args.settings.callers (pieces_of (length c.args.bytes.now))) (map (λ v. v.items) c.in-Ok.claimed.answers.items) _ run
    (λ k v at. let from = mapped_at g.M.MapCalls.pass_view c.args.passes.items k v at in
    ap (λ p. p.share) (sym from.2) ∙ c.requires.shares k from.0 from.1)
    (none_lost _ _ c.args.settings (map g.M.MapCalls.pass_view c.args.passes.items) (all_claims c.args.settings.callers
    (pieces_of (length c.args.bytes.now))) (map (λ v. v.items) c.in-Ok.claimed.answers.items) _ c.in-Ok.ensures.ran
    c.requires.chosen.sizes_are c.requires.within (λ k v at. let from = mapped_at g.M.MapCalls.pass_view c.args.passes.items k v at in
    subst (λ (p : PassView). IsClean g.M.MapCalls.meaning (g.M.MapCalls.sizes c.args.chosen) p) from.2 (c.requires.clean k from.0 from.1))))
    c.in-Ok.ensures.owned c.in-Ok.ensures.counted c.finish-way.result ends
