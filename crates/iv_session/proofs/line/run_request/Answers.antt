use Rattle.std.proofs.Common.{refl}
use Rattle.std.proofs.lemmas.Result.{err_from_is_err_and}
use Rattle.iv_lines.specs.declared.fault.Fault.TheVariants as fault
use Rattle.iv_session.specs.declared.request.Request.TheVariants as request
use Rattle.iv_session.proofs.RunLemmas.{done-silent, refused, Opens-cut, RefusesOpen-cut, printed-view, printed-all}
use Rattle.iv_session.proofs.line.run_request.Goals as goal

pub returns-in-Nothing : goal.returns-in-Nothing
returns-in-Nothing g c = rw c.in-Nothing.is (done-silent request.Nothing c.args.session.now _ _ (refl, refl))

pub returns-in_err-edit-in-Edit : goal.returns-in_err-edit-in-Edit
returns-in_err-edit-in-Edit g c =
    let p = err_from_is_err_and c.from_residual.result c.from_residual.ensures.1 in
    rw (p.1, p.2, c.in-Edit.is)
    (refused (request.Edit c.in-Edit.target c.in-Edit.edit) c.args.session.now _ _ c.in_err-edit-in-Edit.field-0.0 c.in_err-edit-in-Edit.ensures.why c.in_err-edit-in-Edit.ensures.err)

pub returns-in_ok-edit-in-Edit : goal.returns-in_ok-edit-in-Edit
returns-in_ok-edit-in-Edit g c =
    rw c.in-Edit.is (done-silent (request.Edit c.in-Edit.target c.in-Edit.edit) c.args.session.now _ _ (c.in_ok-edit-in-Edit.ensures.ok.done, refl))

pub returns-in_err-resize-in-Resize : goal.returns-in_err-resize-in-Resize
returns-in_err-resize-in-Resize g c =
    let p = err_from_is_err_and c.from_residual-in_err-resize-in-Resize.result c.from_residual-in_err-resize-in-Resize.ensures.1 in
    let why = rw c.bytes.ensures at c.in_err-resize-in-Resize.ensures.why in
    rw (p.1, p.2, c.in-Resize.is)
    (refused (request.Resize c.in-Resize.name c.in-Resize.length) c.args.session.now _ _ c.in_err-resize-in-Resize.field-0.0 why c.in_err-resize-in-Resize.ensures.err)

pub returns-in_ok-resize-in-Resize : goal.returns-in_ok-resize-in-Resize
returns-in_ok-resize-in-Resize g c =
    let corrected = rw c.bytes.ensures at c.in_ok-resize-in-Resize.ensures.ok in
    rw c.in-Resize.is (done-silent (request.Resize c.in-Resize.name c.in-Resize.length) c.args.session.now _ _ (corrected, refl))

pub returns-in_err-open_view-in-Open : goal.returns-in_err-open_view-in-Open
returns-in_err-open_view-in-Open g c =
    let p = err_from_is_err_and c.from_residual-in_err-open_view-in-Open.result c.from_residual-in_err-open_view-in-Open.ensures.1 in
    let why = rw (c.bytes-in-Open.ensures, c.as_slice.ensures, c.of.ensures, c.bytes-in-Open-2.ensures) at c.in_err-open_view-in-Open.ensures.why in
    rw (p.1, p.2, c.in-Open.is)
    (refused (request.Open c.in-Open.name c.in-Open.arguments) c.args.session.now _ _ c.in_err-open_view-in-Open.field-0.0 (RefusesOpen-cut c.args.session.now c.in-Open.name c.in-Open.arguments c.in_err-open_view-in-Open.field-0.0 why) c.in_err-open_view-in-Open.ensures.err)

pub returns-in_ok-open_view-in-Open : goal.returns-in_ok-open_view-in-Open
returns-in_ok-open_view-in-Open g c =
    let opens = rw (c.bytes-in-Open.ensures, c.as_slice.ensures, c.of.ensures, c.bytes-in-Open-2.ensures) at c.in_ok-open_view-in-Open.ensures.ok in
    rw c.in-Open.is (done-silent (request.Open c.in-Open.name c.in-Open.arguments) c.args.session.now _ _ (Opens-cut c.args.session.now _ c.in-Open.name c.in-Open.arguments opens, refl))

pub returns-in_err-close_view-in-Close : goal.returns-in_err-close_view-in-Close
returns-in_err-close_view-in-Close g c =
    let p = err_from_is_err_and c.from_residual-in_err-close_view-in-Close.result c.from_residual-in_err-close_view-in-Close.ensures.1 in
    let why = rw c.bytes-in-Close.ensures at c.in_err-close_view-in-Close.ensures.why in
    rw (p.1, p.2, why.0, c.in-Close.is)
    (refused (request.Close c.in-Close.name) c.args.session.now _ _ fault.NoView why.1 c.in_err-close_view-in-Close.ensures.err)

pub returns-in_ok-close_view-in-Close : goal.returns-in_ok-close_view-in-Close
returns-in_ok-close_view-in-Close g c =
    let there = rw c.bytes-in-Close.ensures at c.in_ok-close_view-in-Close.ensures.there in
    let closed = rw c.bytes-in-Close.ensures at c.in_ok-close_view-in-Close.ensures.ok in
    rw c.in-Close.is (done-silent (request.Close c.in-Close.name) c.args.session.now _ _ (there, closed, refl))

pub returns-in-Print : goal.returns-in-Print
returns-in-Print g c = rw c.in-Print.is (printed-view c.in-Print.part c.args.session.now _ c.bytes-in-Print.result.now c.in-Print.name _ _ _ c.bytes-in-Print.ensures c.print_view_counted.ensures.printed)

pub returns-in-PrintAll : goal.returns-in-PrintAll
returns-in-PrintAll g c = rw c.in-PrintAll.is (printed-all c.in-PrintAll.part c.args.session.now _ _ _ _ c.print_all_counted.ensures.printed)
