use Rattle.std.proofs.Common.{refl}
use Rattle.fcc_core.proofs.Causing.{by_memory, by_fault_of, by_run}
use Rattle.fcc_core.proofs.top.run_files.Goals as goal

pub returns-in-Err-clause-caused : goal.returns-in-Err-clause-caused
returns-in-Err-clause-caused g c =
    by_fault_of c.args.run.now _ _ _ _ _ _ _ _ c.in-Err.fault c.as_slice.ensures c.as_slice-in-Err.ensures
    (record { idle = record { input = refl; out = refl }; none_kept = c.requires.none_kept }) c.in-Err.ensures.fronted c.say_fault.ensures

pub returns-in_default-clause-caused : goal.returns-in_default-clause-caused
returns-in_default-clause-caused g c =
    by_memory c.args.run.now _ _ _ _ _ _ (record { idle = record { input = refl; out = refl }; none_kept = c.requires.none_kept }) c.say_memory.ensures

pub returns-clause-caused : goal.returns-clause-caused
returns-clause-caused g c =
    let front = c.in-Ok.ensures.fronted in
    by_run c.args.run.now _ _ _ _ _ _ c.in-Ok-load_program.field-0.image c.in-Ok.program c.run_image-ended.result _ _ refl
    front.0 c.in-Ok-load_program.ensures.compiled _ c.as_slice.ensures front.2 c.run_image-ended.ensures.cause c.in-Ok-load_program.ensures.loaded c.run_image-ended.ensures.gives c.say_ended.ensures
