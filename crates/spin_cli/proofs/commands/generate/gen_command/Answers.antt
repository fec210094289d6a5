use Rattle.std.proofs.Common.{◌∙◌, Ok, ap, inl, refl, subst, sym}
use Rattle.spin_gen.specs.Laws.{IsReadAsScript}
use Rattle.spin_script.specs.Language.{IsScript}
use Rattle.spin_script.specs.Scripts.{script_seen}
use Rattle.spin_script.specs.States.{natives_seen}
use Rattle.spin_inputs.specs.declared.end.End.TheVariants.{NoMemory}
use Rattle.spin_inputs.specs.Ends.{exit_status}
use Rattle.spin_cli.specs.Run.{end_of}
use Rattle.spin_cli.proofs.GenCauses.{not_behind, was_made}
use Rattle.spin_cli.proofs.commands.generate.gen_command.Goals as goal

pub returns-in-Err : goal.returns-in-Err
returns-in-Err g c = λ shelf. (NoMemory, c.stop.ensures.status, (refl, inl (refl, record { ends = refl; tells = c.stop.ensures.line })))

pub made_script-requires-clause-made : goal.made_script-requires-clause-made
made_script-requires-clause-made g c =
    subst (λ t. IsReadAsScript (natives_seen c.args.natives) t) (sym (c.as_slice.ensures ∙ c.in-Ok.ensures.script)) (c.scripts_are_read.ensures (natives_seen c.args.natives) c.args.number)

pub returns-in-Err-made_script : goal.returns-in-Err-made_script
returns-in-Err-made_script g c =
    λ shelf. (NoMemory, c.stop-in-Err-made_script.ensures.status, (refl, inl (refl, record { ends = refl; tells = c.stop-in-Err-made_script.ensures.line })))

pub returns-in-Err-behind_header : goal.returns-in-Err-behind_header
returns-in-Err-behind_header g c =
    let refused = rw c.in-Ok.ensures.capture at c.in-Err-behind_header.ensures.refused in
    λ shelf. (
      c.in-Err-behind_header.end,
      c.stop-in-Err-behind_header.ensures.status,
      not_behind _ _ _ _ c.in-Err-behind_header.end (refl {a = shelf}) (c.captures_are_read.ensures c.args.number) refused (record { ends = refl; tells = c.stop-in-Err-behind_header.ensures.line }),
    )

pub returns : goal.returns
returns g c =
    let line = rw c.end_of.ensures at c.stop-2.ensures.line in
    let read = subst (λ t. IsScript (natives_seen c.args.natives) t (Ok (script_seen c.in-Ok-made_script.script))) (c.as_slice.ensures ∙ c.in-Ok.ensures.script) c.in-Ok-made_script.ensures.script in
    let behind = rw c.in-Ok.ensures.capture at c.in-Ok-behind_header.ensures.behind in
    λ shelf. (
      end_of c.run_over-ended.result,
      c.stop-2.ensures.status ∙ ap exit_status c.end_of.ensures,
      was_made _ _ _ _ _ (script_seen c.in-Ok-made_script.script) _ _ c.run_over-ended.result (refl {a = shelf}) read (c.captures_are_read.ensures c.args.number) behind c.run_over-ended.ensures line,
    )
