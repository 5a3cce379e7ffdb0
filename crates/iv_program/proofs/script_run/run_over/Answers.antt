use Rattle.std.proofs.Common.{ℕ, inl, inr, refl, subst, ◌∙◌}
use Rattle.iv_session.specs.Streams.{streams}
use Rattle.iv_session.specs.Endings.{Ran}
use Rattle.iv_cli.proofs.LoadLemmas.{begins, begins-not}
use Rattle.iv_program.specs.Limits.{most_line_bytes}
use Rattle.iv_program.proofs.RunLemmas.{ends-of, ran-of}
use Rattle.iv_program.proofs.script_run.run_over.Goals as goal

pub returns-in-Err : goal.returns-in-Err
returns-in-Err g c = λ plan texts same has. inr (
  c.in-Err.fault,
  begins-not plan.width texts.sizes texts.first texts.other texts.bases plan.limit c.in-Err.fault (rw c.in-Err.is at has),
  refl,
  c.at_no_line.ensures.0 ∙ c.from.ensures,
  c.at_no_line.ensures.1,
)

pub returns-in-Err-begin_session : goal.returns-in-Err-begin_session
returns-in-Err-begin_session g c = λ plan texts same has. inr (
  c.in-Err-begin_session.fault,
  inl c.in-Err-begin_session.ensures.err,
  refl,
  c.at_no_line-in-Err-begin_session.ensures.0 ∙ c.from-in-Err-begin_session.ensures,
  c.at_no_line-in-Err-begin_session.ensures.1,
)

pub returns : goal.returns
returns g c = λ plan texts same has. inl (
  c.in-Ok-begin_session.session,
  begins plan.width texts.sizes texts.first texts.other texts.bases plan.limit c.in-Ok.files c.in-Ok-begin_session.session (rw c.in-Ok.is at has) c.in-Ok-begin_session.ensures.ok,
  record {
    new = c.run_script-done.new.session;
    run = c.run_script-done.result;
    ran = subst (λ (lines : ℕ). Ran c.in-Ok-begin_session.session c.run_script-done.new.session
        (streams (g.R.Source.state c.args.input.now) (g.W.Sink.state c.args.output.now) (g.E.Sink.state c.args.messages.now))
        (streams (g.R.Source.state c.run_script-done.new.input) (g.W.Sink.state c.run_script-done.new.output) (g.E.Sink.state c.run_script-done.new.messages))
        lines most_line_bytes c.run_script-done.result)
        same
        (ran-of c.in-Ok-begin_session.session c.run_script-done.new.session
        (streams (g.R.Source.state c.args.input.now) (g.W.Sink.state c.args.output.now) (g.E.Sink.state c.args.messages.now))
        (streams (g.R.Source.state c.run_script-done.new.input) (g.W.Sink.state c.run_script-done.new.output) (g.E.Sink.state c.run_script-done.new.messages))
        c.args.limit most_line_bytes c.run_script-done.result c.run_script-done.ensures.done c.run_script-done.ensures.stopped);
    ends = ends-of c.run_script-done.result c.ending_of_run.result c.line_of_stop.result c.ending_of_run.ensures c.line_of_stop.ensures;
  },
)
