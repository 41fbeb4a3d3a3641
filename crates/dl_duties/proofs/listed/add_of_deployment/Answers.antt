use Rattle.std.proofs.Common.{◌≡◌, ◌++◌, [], List, map, sym, ◌∙◌, ap}
use Rattle.std.specs.Prelude.{Option, unwrap_or}
use Rattle.dl_model.specs.declared.file.Program.{Program}
use Rattle.dl_model.specs.declared.file.Deploy.{Deploy}
use Rattle.dl_sequent.specs.declared.duty.Duty.{Duty as Named}
use Rattle.dl_sequent.specs.declared.duty.Duty.TheVariants.{Deploy as Deployed}
use Rattle.dl_triples.specs.Duties.{duties_of_deployment}
use Rattle.dl_inv.proofs.Listing.{where-done}
use Rattle.dl_duties.proofs.listed.add_of_deployment.Goals as goal

pub returns : goal.returns
returns c =
    let made : List Program → List Named = λ programs. c.args.list.now ++ map (λ (program : Program). Deployed program.node) programs in
    where-done c.add_of_programs.result (c.add_of_programs.new.list ≡ made c.as_slice.result.now) (c.add_of_programs.new.list ≡ c.args.list.now ++ duties_of_deployment c.args.decls.now) c.add_of_programs.ensures
    (λ e. e ∙ (ap made c.as_slice.ensures ∙ ap (λ (o : Option Deploy). made (unwrap_or o (record { world = 0; programs = [] })).programs) (sym c.in-Some.is)))
