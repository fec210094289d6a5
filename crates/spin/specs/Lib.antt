-- What clauses and proofs of a host cite: files of the crates below under distinct names, and then declared types.

-- what events carry
pub use Rattle.spin_values.specs.Kinds
pub use Rattle.spin_word.specs.Commands
pub use Rattle.spin_word.specs.Rows as CommandRows
-- handlers, guards and authorisers
pub use Rattle.spin_code.specs.Check
pub use Rattle.spin_code.specs.Truth
pub use Rattle.spin_code.specs.Value as Values
pub use Rattle.spin_policy.specs.Imposed
pub use Rattle.spin_policy.specs.Verdicts
pub use Rattle.spin_objects.specs.Adding
pub use Rattle.spin_objects.specs.Doing
pub use Rattle.spin_objects.specs.Units
-- setups and versions
pub use Rattle.spin_table.specs.Refusals
pub use Rattle.spin_table.specs.SetupOf
pub use Rattle.spin_table.specs.Setups
pub use Rattle.spin_table.specs.Soundness
pub use Rattle.spin_table.specs.States
pub use Rattle.spin_table.specs.Steps
-- raises
pub use Rattle.spin_raise.specs.Firing
pub use Rattle.spin_proto.specs.Parts
pub use Rattle.spin_proto.specs.Replies
pub use Rattle.spin_proto.specs.Views
pub use Rattle.spin_proto.specs.Whole
-- scripts
pub use Rattle.spin_script.specs.Language
pub use Rattle.spin_script.specs.Scripts
pub use Rattle.spin_script.specs.Segments
pub use Rattle.spin_script.specs.Soundness as ScriptSoundness
-- seats
pub use Rattle.spin_log.specs.History as LogHistory
pub use Rattle.spin_log.specs.Pens
pub use Rattle.spin_log.specs.Rows as LogRows
pub use Rattle.spin_seat.specs.Answers
pub use Rattle.spin_seat.specs.Calls
pub use Rattle.spin_seat.specs.Places
pub use Rattle.spin_seat.specs.RenewedHubs
pub use Rattle.spin_seat.specs.Replay
pub use Rattle.spin_seat.specs.Seats
pub use Rattle.spin_seat.specs.Weaves
-- jobs and tasks
pub use Rattle.spin_jobs.specs.Jobs
pub use Rattle.spin_later.specs.Agreements
pub use Rattle.spin_later.specs.History as QueueHistory
pub use Rattle.spin_later.specs.Parties
-- whole runs
pub use Rattle.spin_outside.specs.Counts
pub use Rattle.spin_outside.specs.Seen
pub use Rattle.spin_outside.specs.Sources
pub use Rattle.spin_headers.specs.Headers
pub use Rattle.spin_pcap.specs.Captures
pub use Rattle.spin_pcap.specs.Passing
pub use Rattle.spin_endpoint.specs.Endpoints
pub use Rattle.spin_endpoint.specs.Named
pub use Rattle.spin_run.specs.Ends
pub use Rattle.spin_run.specs.Records
pub use Rattle.spin_run.specs.Summaries
-- declared types
pub use Rattle.spin_values.specs.declared.types.EventType
pub use Rattle.spin_values.specs.declared.types.Kind
pub use Rattle.spin_values.specs.declared.types.Param
pub use Rattle.spin_values.specs.declared.values.Value
pub use Rattle.spin_word.specs.declared.command.Command
pub use Rattle.spin_word.specs.declared.command.Mode
pub use Rattle.spin_word.specs.declared.command.Op
pub use Rattle.spin_word.specs.declared.command.Place
pub use Rattle.spin_word.specs.declared.work.Deed
pub use Rattle.spin_code.specs.declared.act.Act
pub use Rattle.spin_code.specs.declared.act.ActStep
pub use Rattle.spin_code.specs.declared.act.Layer
pub use Rattle.spin_code.specs.declared.act.Part
pub use Rattle.spin_code.specs.declared.expr.Expr
pub use Rattle.spin_code.specs.declared.test.Cmp
pub use Rattle.spin_code.specs.declared.test.Test
pub use Rattle.spin_policy.specs.declared.rule.Effect
pub use Rattle.spin_policy.specs.declared.rule.OpMatch
pub use Rattle.spin_policy.specs.declared.rule.Request
pub use Rattle.spin_policy.specs.declared.rule.Rule
pub use Rattle.spin_policy.specs.declared.rule.Verdict
pub use Rattle.spin_table.specs.declared.refusal.Refusal
pub use Rattle.spin_table.specs.declared.refusal.StepFault
pub use Rattle.spin_table.specs.declared.refusal.Verdicted
pub use Rattle.spin_raise.specs.declared.answer.Answer
pub use Rattle.spin_proto.specs.declared.deed.JobCall
pub use Rattle.spin_proto.specs.declared.reply.Reply
pub use Rattle.spin_proto.specs.declared.reply.Step
pub use Rattle.spin_script.specs.declared.script.ScriptFault
pub use Rattle.spin_seat.specs.declared.answer.SeatFault
pub use Rattle.spin_seat.specs.declared.renewal.RenewFault
pub use Rattle.spin_later.specs.declared.task.Task
pub use Rattle.spin_run.specs.declared.end.RunEnd
