-- `push` writes behind the bytes, by `push_more`; a full line stays, by `push_full`.
use borrow.Author.Rules.{rules}
use Rattle.lines.specs.Bytes.{bytes_of}
use Rattle.lines.proofs.Cuts.{push_more, push_full}
use Rattle.lines.proofs.Line.push.Goals as goal

pub returns-then-self-lt-LINE_ROOM : goal.returns-then-self-lt-LINE_ROOM
unfolding bytes_of
returns-then-self-lt-LINE_ROOM c = let l = c.args.self.now in push_more l.bytes l.count c.args.b (search rules) c.if-self-lt-LINE_ROOM.true

pub returns-else-self-lt-LINE_ROOM : goal.returns-else-self-lt-LINE_ROOM
unfolding bytes_of
returns-else-self-lt-LINE_ROOM c = let l = c.args.self.now in push_full l.bytes l.count c.args.b (search rules) c.if-self-lt-LINE_ROOM.false
