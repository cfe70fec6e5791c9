use lib.Utf8.{encode}
use Rattle.std.proofs.lemmas.Result.{err_from_is_err_and}
use Rattle.std.proofs.Common.{is_ok, string_bytes}
use Rattle.text.proofs.Keeping.{keeps_if}
use Rattle.text.proofs.Writing.{byte_pushed}
use Rattle.text.proofs.hex.push_byte.Goals as goal

pub returns-in_err-push : goal.returns-in_err-push
returns-in_err-push c =
    let p = err_from_is_err_and c.from_residual.result c.from_residual.ensures.1 in
    rw p.1 (keeps_if (string_bytes c.args.out.now) (encode c.digit_char.result) (string_bytes c.push.new.self) (is_ok c.push.result) c.push.ensures.bytes)

pub returns : goal.returns
returns c =
    byte_pushed (string_bytes c.args.out.now) (string_bytes c.push.new.self) (string_bytes c.push-2.new.self) c.digit_char.result c.digit_char-2.result c.args.b c.push.result c.push-2.result c.in_ok-push.field-0
    c.in_ok-push.was c.digit_char.ensures.value c.digit_char-2.ensures.value
    (c.push.ensures.ascii c.digit_char.ensures.ascii) (c.push-2.ensures.ascii c.digit_char-2.ensures.ascii)
    c.push.ensures.bytes c.push-2.ensures.bytes
