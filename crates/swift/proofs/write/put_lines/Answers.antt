use Rattle.swift.proofs.Writing.{lines-put}
use Rattle.swift.proofs.write.put_lines.Goals as goal

pub returns : goal.returns
returns c =
    lines-put c.args.sheet.now c.args.out.now _ _ _ _ _ _ _ _ _ _ _ _ _ _ _ _ _ c.requires
    c.text-2.ensures c.text-3.ensures c.text-4.ensures c.text-7.ensures c.text-5.ensures c.text.ensures c.text-6.ensures
    c.put_line-second.ensures c.put_line-third.ensures c.put_line-fourth.ensures c.put_line-fifth.ensures c.put_line.ensures
