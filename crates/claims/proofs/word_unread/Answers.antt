use Rattle.claims.proofs.WordUnread.{word_unread}
use Rattle.claims.proofs.word_unread.Goals as goal

pub returns : goal.returns
returns c = word_unread
