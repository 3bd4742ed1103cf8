use Rattle.he_request.proofs.Drawn.{all_drawn}
use Rattle.he_request.proofs.draw.drawing_of.Goals as goal

pub returns-clause-asks : goal.returns-clause-asks
returns-clause-asks c =
    all_drawn _ _ c.args.terminal c.get_str-html.result c.in_ok-page.page c.content_of.result c.alone-task.result c.is_some.result c.texts_of.result
    c.get_str-html.ensures c.in_ok-page.ensures c.is_some.ensures c.content_of.ensures c.alone-task.ensures.is c.texts_of.ensures.asks
