-- `list_read` meets its contract: a refused open, or the listing of a job that is opened and given a budget that covers it.
use Rattle.std.proofs.Common.{refl, ap, ◌∙◌}
use Rattle.std.specs.Prelude.{[], ◌∷◌}
use Rattle.forms.specs.Forms.{spell}
use Rattle.listing.specs.Lines.{refused_form}
use Rattle.listing.specs.Written.{put_answer, put_bytes}
use Rattle.listing.proofs.ListedLaws.{refused_listed, finished_listed}
use Rattle.listing.proofs.list.list_read.Goals as goal

pub returns-in-Err-clause-answer : goal.returns-in-Err-clause-answer
returns-in-Err-clause-answer c =
    let is = refused_listed c.args.job _ _ refl c.open-opened.ensures.answer _ c.in-Err.is in
    c.write_refusal.ensures.answer
    ∙ ap (λ n. put_answer (spell refused_form (n ∷ [])) c.args.out.now) c.number.ensures
    ∙ ap (λ bs. put_answer bs c.args.out.now) is

pub returns-in-Err-clause-out : goal.returns-in-Err-clause-out
returns-in-Err-clause-out c =
    let is = refused_listed c.args.job _ _ refl c.open-opened.ensures.answer _ c.in-Err.is in
    c.write_refusal.ensures.out
    ∙ ap (λ n. put_bytes (spell refused_form (n ∷ [])) c.args.out.now) c.number.ensures
    ∙ ap (λ bs. put_bytes bs c.args.out.now) is

pub returns-clause-answer : goal.returns-clause-answer
returns-clause-answer c =
    let began = c.open-opened.ensures in
    let done = c.step.ensures in
    let is =
    finished_listed c.args.job _ _ refl began.answer began.next began.memory c.in_default.is refl done.next (c.view.ensures ∙ done.memory)
    c.nan_pattern.ensures c.args.out.now in
    c.write_listing.ensures.answer ∙ ap (λ p. p.answer) is

pub returns-clause-out : goal.returns-clause-out
returns-clause-out c =
    let began = c.open-opened.ensures in
    let done = c.step.ensures in
    let is =
    finished_listed c.args.job _ _ refl began.answer began.next began.memory c.in_default.is refl done.next (c.view.ensures ∙ done.memory)
    c.nan_pattern.ensures c.args.out.now in
    c.write_listing.ensures.out ∙ ap (λ p. p.bytes) is
