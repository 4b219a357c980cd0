-- What a computation of texts unfolds, as one name: to unfold it is to unfold all that its line names.
use Rattle.texts.specs.Texts.{every, any, same, between, ◌is_one_of◌, ◌begins_one_of◌, are, among, value_of, value, number, weighted}
use Rattle.texts.specs.Buffers.{put}
use Rattle.texts.specs.Working.Writing.{put_at}

unfoldable pub texts_computing : Unit {0}
unfolding every any same between ◌is_one_of◌ ◌begins_one_of◌ are among value_of value number weighted put put_at
texts_computing = tt
