use Rattle.std.proofs.Common.{arith}
use Rattle.std.proofs.lemmas.Result.{err_from_is_err_and}
use Rattle.store_format.proofs.FooterReadLemmas.{AreRead, kind_fault, period_fault, footer_read}
use Rattle.store_format.proofs.footer.DocStoreFooterBinarySerializable.deserialize.Goals.{In_ok-offset}
use Rattle.store_format.proofs.footer.DocStoreFooterBinarySerializable.deserialize.Goals as goal

-- what was read before the kind
read : (c : In_ok-offset) → AreRead c.in_ok-doc_store_version.doc_store_version c.in_ok-offset.offset c.args.bytes.now.now c.deserialize.new.bytes.now c.deserialize-2.new.bytes.now
read c = record {
  long = c.if-rest-lt-SIZE_IN_BYTES.false;
  few = c.in_ok-offset.ensures.reads.0;
  first = c.in_ok-doc_store_version.ensures.reads;
  second = c.in_ok-offset.ensures.reads.1;
  left = omega (arith, c.if-rest-lt-SIZE_IN_BYTES.false, c.in_ok-doc_store_version.ensures.taken, c.in_ok-offset.ensures.taken);
}

pub returns-in_err-decompressor : goal.returns-in_err-decompressor
returns-in_err-decompressor c =
    let p = err_from_is_err_and c.from_residual-in_err-decompressor.result c.from_residual-in_err-decompressor.ensures.1 in
    rw (p.1, p.2) (kind_fault _ _ _ _ _ _ (read (goal.at.returns-in_err-decompressor c).In_ok-offset) c.in_err-decompressor.ensures.err.0 c.in_err-decompressor.ensures.err.1)

pub returns-in_err-period : goal.returns-in_err-period
returns-in_err-period c =
    let p = err_from_is_err_and c.from_residual-in_err-period.result c.from_residual-in_err-period.ensures.1 in
    rw (p.1, p.2)
    (period_fault _ _ _ _ _ c.in_ok-decompressor.decompressor _
    (read (goal.at.returns-in_err-period c).In_ok-offset) c.in_ok-decompressor.ensures.ok c.in_err-period.ensures.err.0 c.in_err-period.ensures.err.1 c.in_err-period.ensures.err.2)

pub returns : goal.returns
returns c =
    footer_read
    (record {
      offset = c.in_ok-offset.offset;
      doc_store_version = c.in_ok-doc_store_version.doc_store_version;
      decompressor = c.in_ok-decompressor.decompressor;
      period = c.in_ok-period.period;
      least = c.in_ok-period.ensures.least;
      most = c.in_ok-period.ensures.most;
    }) _ _ _ (read (goal.at.returns c).In_ok-offset) c.in_ok-decompressor.ensures.ok c.in_ok-period.ensures.ok
