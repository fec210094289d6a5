use Rattle.std.proofs.Common.{◌≡◌, true, ap, ◌∙◌}
use Rattle.clap.specs.Words.{app_of}
use Rattle.clap.specs.Simple.{app_of_fields, on_top}
use Rattle.spin_args.specs.Inner.Parsing.{bare, run, gen, check, join, vm}
use Rattle.spin_args.proofs.CommandShape.{Reads, adds, joins}
use Rattle.spin_args.proofs.words.command.Goals as goal

pub returns : goal.returns
returns c =
    let run_is : Reads c.in_ok-run.run' run =
    adds _ _ _ _ _ c.in_ok-run.ensures (adds _ _ _ _ _ c.in_ok-arg.ensures (c.new.ensures.app, c.new.ensures.local) c.required.ensures) (c.new-2.ensures.rule, c.new-2.ensures.optional.1) in
    let generate_is : Reads c.in_ok-generate.generate gen =
    adds _ _ _ _ _ c.in_ok-generate.ensures (c.new-3.ensures.app, c.new-3.ensures.local) c.required-2.ensures in
    let check_is : Reads c.in_ok-check.check check =
    adds _ _ _ _ _ c.in_ok-check.ensures (adds _ _ _ _ _ c.in_ok-arg-3.ensures (adds _ _ _ _ _ c.in_ok-arg-2.ensures (c.new-4.ensures.app, c.new-4.ensures.local) c.required-3.ensures) c.required-4.ensures) (c.new-5.ensures.rule, c.new-5.ensures.optional.1) in
    let join_is : Reads c.in_ok-join.join join =
    adds _ _ _ _ _ c.in_ok-join.ensures (adds _ _ _ _ _ c.in_ok-arg-4.ensures (c.new-6.ensures.app, c.new-6.ensures.local) c.required-5.ensures) c.required-6.ensures in
    let vm_is : Reads c.in_ok-vm.vm vm =
    adds _ _ _ _ _ c.in_ok-vm.ensures (adds _ _ _ _ _ c.in_ok-arg-5.ensures (c.new-7.ensures.app, c.new-7.ensures.local) c.required-7.ensures) c.required-8.ensures in
    let bare_is : app_of c.subcommand_required.result ≡ bare =
    ap app_of_fields c.subcommand_required.ensures
    ∙ ap (on_top (λ s. record s { subcommand_required = true })) (ap app_of_fields c.disable_help_subcommand.ensures
    ∙ ap (on_top (λ s. record s { disable_help_subcommand = true })) (ap app_of_fields c.disable_help_flag.ensures
    ∙ ap (on_top (λ s. record s { disable_help_flag = true })) (ap app_of_fields c.no_binary_name.ensures
    ∙ ap (on_top (λ s. record s { no_binary_name = true })) c.new-8.ensures.app))) in
    joins _ _ _ _ _ c.in_ok-spin.ensures (joins _ _ _ _ _ c.in_ok-subcommand-4.ensures (joins _ _ _ _ _ c.in_ok-subcommand-3.ensures
    (joins _ _ _ _ _ c.in_ok-subcommand-2.ensures (joins _ _ _ _ _ c.in_ok-subcommand.ensures bare_is run_is) generate_is) check_is) join_is) vm_is
