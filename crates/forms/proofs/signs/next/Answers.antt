use Rattle.std.proofs.Common.{◌≡◌}
use Rattle.std.specs.Option.{option_flatten}
use Rattle.std.specs.Result.{result_ok}
use Rattle.forms.proofs.Scanning.{passed}
use Rattle.forms.proofs.signs.next.Goals as goal

pub returns : goal.returns
returns c =
    let h = passed c.args.lexer.now c.next.new.self c.next.result c.next.ensures.answer c.next.ensures.after in
    let e : c.flatten.result ≡ option_flatten (result_ok c.next.result) = cc in
    rw e h
