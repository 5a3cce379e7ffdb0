use Rattle.std.proofs.Common.{[], map, subst, sym, ◌∙◌}
use Rattle.iv_run.specs.declared.exit_reason.ExitReason.{ExitReason}
use Rattle.iv_program.specs.Inside.Runs.{EndsRun}
use Rattle.iv_program.proofs.RunLemmas.{gave-notice, had-no-plan, ran-plan}
use Rattle.iv_program.proofs.program.run_program.Goals as goal

pub returns-in-Some : goal.returns-in-Some
returns-in-Some g c =
    gave-notice (map (λ argument. argument.now) c.args.arguments.now) c.finish.result c.in-Some.notice (g.F.InputFiles.state c.args.files.now) (g.R.Source.state c.args.input.now)
    (g.W.Sink.state c.args.output.now) (g.W.Sink.state c.print_notice.new.output) (g.W.Sink.state c.finish.new.output)
    (g.E.Sink.state c.args.messages.now) (g.E.Sink.state c.finish.new.messages) c.print_notice.result (sym c.in-Some.ensures) c.print_notice.ensures
    (subst (λ (e : ExitReason). EndsRun e [] (g.W.Sink.state c.print_notice.new.output) (g.W.Sink.state c.finish.new.output) (g.E.Sink.state c.args.messages.now) (g.E.Sink.state c.finish.new.messages) c.finish.result.exit_reason)
    c.at_no_line-ended.ensures.0 c.finish.ensures.exit_reason) (c.finish.ensures.line ∙ c.at_no_line-ended.ensures.1)

pub returns-in-Ok : goal.returns-in-Ok
returns-in-Ok g c =
    ran-plan (map (λ argument. argument.now) c.args.arguments.now) c.finish-in-Ok.result c.in-Ok.plan (g.F.InputFiles.state c.args.files.now) (g.F.InputFiles.state c.run_plan-ended.new.files)
    (g.R.Source.state c.args.input.now) (g.R.Source.state c.run_plan-ended.new.input)
    (g.W.Sink.state c.args.output.now) (g.W.Sink.state c.run_plan-ended.new.output) (g.W.Sink.state c.finish-in-Ok.new.output)
    (g.E.Sink.state c.args.messages.now) (g.E.Sink.state c.run_plan-ended.new.messages) (g.E.Sink.state c.finish-in-Ok.new.messages)
    c.run_plan-ended.result.exit_reason c.run_plan-ended.result.line c.file_meant.result.now (sym c.of.ensures ∙ c.in_default.is) c.in-Ok.ensures.ok c.run_plan-ended.ensures c.file_meant.ensures
    c.finish-in-Ok.ensures.exit_reason c.finish-in-Ok.ensures.line

pub returns-in-Err : goal.returns-in-Err
returns-in-Err g c =
    had-no-plan (map (λ argument. argument.now) c.args.arguments.now) c.finish-in-Err.result c.in-Err.fault (g.F.InputFiles.state c.args.files.now) (g.R.Source.state c.args.input.now)
    (g.W.Sink.state c.args.output.now) (g.W.Sink.state c.finish-in-Err.new.output) (g.E.Sink.state c.args.messages.now) (g.E.Sink.state c.finish-in-Err.new.messages)
    c.from.result (sym c.of.ensures ∙ c.in_default.is) c.in-Err.ensures.err c.from.ensures
    (subst (λ (e : ExitReason). EndsRun e [] (g.W.Sink.state c.args.output.now) (g.W.Sink.state c.finish-in-Err.new.output) (g.E.Sink.state c.args.messages.now) (g.E.Sink.state c.finish-in-Err.new.messages) c.finish-in-Err.result.exit_reason)
    c.at_no_line-ended-in-Err.ensures.0 c.finish-in-Err.ensures.exit_reason) (c.finish-in-Err.ensures.line ∙ c.at_no_line-ended-in-Err.ensures.1)
